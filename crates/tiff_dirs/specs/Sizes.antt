-- Numbers that a reader of numbers takes.
use Rattle.std.specs.Prelude.{◌≤◌}
use Rattle.tiff_dirs.specs.declared.tables.Pair.{Pair}

-- the offsets and the lengths are numbers of one to eight bytes
pub record IsSized (p : Pair) : Type 0 where
  pub least : 1 ≤ p.offsets.width
  pub most : p.offsets.width ≤ 8
  pub least_len : 1 ≤ p.lens.width
  pub most_len : p.lens.width ≤ 8
