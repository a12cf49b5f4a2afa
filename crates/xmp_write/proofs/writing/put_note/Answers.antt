use Rattle.std.proofs.Common.{Some, ap}
use Rattle.xmp_write.specs.Text.{lines_text}
use Rattle.xmp_write.specs.Written.{note_members}
use Rattle.xmp_write.proofs.PlacedPieces.{puts_as}
use Rattle.xmp_write.proofs.writing.put_note.Goals as goal

pub returns-in-Some : goal.returns-in-Some
returns-in-Some c =
    let ps = c.args.prefixes.now in
    let told = puts_as (lines_text ps (note_members (Some c.in-Some.digits))) c.put_note_line.ensures (ap (λ digits. lines_text ps (note_members (Some digits))) c.bytes.ensures.value) in
    rw c.in-Some.is told
