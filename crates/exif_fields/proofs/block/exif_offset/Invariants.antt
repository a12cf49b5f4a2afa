use Rattle.std.proofs.Common.{◌≡◌, ◌+◌, ◌-◌, ◌*◌}
use Rattle.exif_fields.specs.Blocks.{entries_at, entries_from, first_of}
use Rattle.exif_fields.proofs.block.exif_offset.Given as goal

abbrev pub invariant-loop-i : goal.invariant-loop-i
invariant-loop-i l = first_of 34665 (entries_at l.block l.at) ≡ first_of 34665 (entries_from l.block (l.at + 2 + 12 * l.i) (l.count - l.i))
