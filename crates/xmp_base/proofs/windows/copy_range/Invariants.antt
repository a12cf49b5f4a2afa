use Rattle.std.proofs.Common.{length, ◌-◌, ◌≤◌}
use Rattle.xmp_base.proofs.Ends.{Copied}
use Rattle.xmp_base.proofs.windows.copy_range.Given as goal

abbrev pub invariant-loop-done : goal.invariant-loop-done
invariant-loop-done g l = record {
  within : l.done ≤ l.len;
  copied : Copied (g.D.Desk.state l.initial.desk) (g.D.Desk.state l.desk) l.from l.at l.len l.to (length l.initial.buffer) l.done;
}

abbrev pub decreases-loop-done : goal.decreases-loop-done
decreases-loop-done g l = l.len - l.done
