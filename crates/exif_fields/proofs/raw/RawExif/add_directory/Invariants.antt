use Rattle.std.proofs.Common.{◌≡◌, ◌+◌, ◌-◌, ◌*◌, Ok}
use Rattle.exif_fields.specs.Blocks.{entries_at, entries_from, with_entries}
use Rattle.exif_fields.proofs.raw.RawExif.add_directory.Given as goal

abbrev pub invariant-loop-i : goal.invariant-loop-i
invariant-loop-i l =
    with_entries l.block l.exif (entries_at l.block l.at) (Ok l.initial.self)
    ≡ with_entries l.block l.exif (entries_from l.block (l.at + 2 + 12 * l.i) (l.count - l.i)) (Ok l.self)
