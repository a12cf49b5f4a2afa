use Rattle.std.proofs.Common.{length, ◌-◌, ◌≤◌}
use Rattle.xmp_files.proofs.Emits.{Put}
use Rattle.xmp_files.proofs.emitting.put_pieces.Given as goal

abbrev pub invariant-loop-done : goal.invariant-loop-done
invariant-loop-done g l = record {
  within : l.done ≤ length l.bytes;
  put : Put (g.D.Desk.state l.initial.desk) (g.D.Desk.state l.desk) l.to l.bytes l.done;
}

abbrev pub decreases-loop-done : goal.decreases-loop-done
decreases-loop-done g l = length l.bytes - l.done
