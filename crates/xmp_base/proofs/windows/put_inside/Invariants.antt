use Rattle.std.proofs.Common.{length, ◌-◌, ◌≤◌}
use Rattle.xmp_base.proofs.Exchanges.{PutSome}
use Rattle.xmp_base.proofs.windows.put_inside.Given as goal

abbrev pub invariant-loop-done : goal.invariant-loop-done
invariant-loop-done g l = record {
  within : l.done ≤ length l.piece;
  put : PutSome (g.D.Desk.state l.initial.desk) (g.D.Desk.state l.desk) l.name l.at l.piece l.done;
}

abbrev pub decreases-loop-done : goal.decreases-loop-done
decreases-loop-done g l = length l.piece - l.done
