use Rattle.std.proofs.Common.{length, ◌-◌, ◌+◌, ◌≤◌}
use Rattle.xmp_base.specs.Whole.{MovedOnce}
use Rattle.xmp_base.proofs.Inside.{FilledFrom}
use Rattle.xmp_base.proofs.windows.fill_from.Given as goal

abbrev pub invariant-loop-done : goal.invariant-loop-done
invariant-loop-done g l = record {
  within : l.done ≤ length l.to;
  once : MovedOnce l.name l.at (l.at + l.done) (g.D.Desk.state l.initial.desk).reads (g.D.Desk.state l.desk).reads;
  filled : FilledFrom (g.D.Desk.state l.initial.desk) (g.D.Desk.state l.desk) l.name l.at (l.at + length l.initial.to) l.done l.to;
}

abbrev pub decreases-loop-done : goal.decreases-loop-done
decreases-loop-done g l = length l.initial.to - l.done
