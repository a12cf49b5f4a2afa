use Rattle.std.proofs.Common.{◌≡◌, take}
use Rattle.xmp_files.specs.NewFiles.{parts_at}
use Rattle.xmp_files.specs.Planning.{parts_len}
use Rattle.xmp_files.specs.Plans.{told}
use Rattle.xmp_files.proofs.relocating.total_len.Given as goal

abbrev pub invariant-loop-part : goal.invariant-loop-part
invariant-loop-part l = l.total ≡ told (parts_len (parts_at l.bytes (take l.part-index l.parts)))
