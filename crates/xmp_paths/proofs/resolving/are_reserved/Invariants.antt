use Rattle.std.proofs.Common.{◌≡◌, drop}
use Rattle.xmp_paths.specs.Paths.{are_reserved}
use Rattle.xmp_paths.proofs.resolving.are_reserved.Given as goal

abbrev pub invariant-loop-at : goal.invariant-loop-at
invariant-loop-at l = are_reserved (drop l.at l.steps) ≡ are_reserved l.steps
