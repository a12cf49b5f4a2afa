use Rattle.std.proofs.Common.{◌≤◌, ◌-◌, length, take}
use Rattle.xmp_write.specs.Placing.{Puts, escaped}
use Rattle.xmp_write.proofs.placing.put_escaped.Given as goal

abbrev pub invariant-loop-from : goal.invariant-loop-from
invariant-loop-from l = record {
  within : l.from ≤ length l.text;
  put : Puts l.fn.to l.to l.at l.after (escaped l.place (take l.from l.text));
}

abbrev pub decreases-loop-from : goal.decreases-loop-from
decreases-loop-from l = length l.text - l.from
