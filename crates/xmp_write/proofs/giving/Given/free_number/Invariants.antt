use Rattle.std.proofs.Common.{◌≤◌}
use Rattle.xmp_write.proofs.Numbers.{AreTried}
use Rattle.xmp_write.proofs.giving.Given.free_number.Given as goal

abbrev pub invariant-loop-number : goal.invariant-loop-number
invariant-loop-number l = record {
  some : 1 ≤ l.number;
  tried : AreTried l.hints l.self.list l.number;
}
