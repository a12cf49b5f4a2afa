use Rattle.std.proofs.Common.{◌≡◌, drop}
use Rattle.xmp_paths.specs.Grammar.{pieces, spelled_steps}
use Rattle.xmp_paths.proofs.Collected.{after}
use Rattle.xmp_paths.proofs.spelling.spelled_steps.Given as goal

abbrev pub invariant-loop-at : goal.invariant-loop-at
invariant-loop-at l = after l.steps (spelled_steps (pieces (drop l.at l.text))) ≡ spelled_steps (pieces l.text)
