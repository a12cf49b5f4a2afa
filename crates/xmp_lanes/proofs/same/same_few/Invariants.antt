use Rattle.std.proofs.Common.{◌≡◌, ◌+◌, drop}
use Rattle.xmp_lanes.specs.Runs.{same_run}
use Rattle.xmp_lanes.proofs.same.same_few.Given as goal

abbrev pub invariant-loop-at : goal.invariant-loop-at
invariant-loop-at l = l.from + same_run (drop l.from l.a) (drop l.from l.b) ≡ l.at + same_run (drop l.at l.a) (drop l.at l.b)
