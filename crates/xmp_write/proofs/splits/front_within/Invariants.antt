use Rattle.std.proofs.Common.{◌≡◌, ◌+◌, ◌-◌, ◌^◌, ◌≤◌, min}
use Rattle.xmp_write.specs.Grown.{IsGrown}
use Rattle.xmp_write.specs.Splits.{front_spaces, front_len}
use Rattle.xmp_write.proofs.FrontLengths.{whole}
use Rattle.xmp_write.proofs.splits.front_within.Given as goal

abbrev pub invariant-loop-count : goal.invariant-loop-count
invariant-loop-count l = record {
  grown : IsGrown l.hints (front_spaces l.tree.props l.count) l.grown;
  len : l.len ≡ min (front_len (whole l.tree l.hints) l.tree l.count) (2 ^ 64 - 1);
  fits : 73 + front_len (whole l.tree l.hints) l.tree l.count ≤ l.room;
}
