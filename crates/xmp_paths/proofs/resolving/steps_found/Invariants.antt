use Rattle.std.proofs.Common.{◌≡◌, drop}
use Rattle.xmp_paths.specs.Paths.{steps_found}
use Rattle.xmp_paths.proofs.Collected.{after}
use Rattle.xmp_paths.proofs.resolving.steps_found.Given as goal

abbrev pub invariant-loop-step : goal.invariant-loop-step
invariant-loop-step l = after l.steps (steps_found l.spaces (drop l.step-index l.spelled)) ≡ steps_found l.spaces l.spelled
