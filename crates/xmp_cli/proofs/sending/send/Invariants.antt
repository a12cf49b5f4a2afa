use Rattle.std.proofs.Common.{length, ◌-◌, ◌≤◌}
use Rattle.xmp_cli.specs.Sending.{Sent}
use Rattle.xmp_cli.proofs.sending.send.Given as goal

abbrev pub invariant-loop-done : goal.invariant-loop-done
invariant-loop-done g l = record {
  within : l.done ≤ length l.text;
  sent : Sent (g.O.Sink.state l.initial.out) (g.O.Sink.state l.out) l.text l.done;
}

abbrev pub decreases-loop-done : goal.decreases-loop-done
decreases-loop-done g l = length l.text - l.done
