use Rattle.std.proofs.Common.{refl}
use Rattle.xmp_write.proofs.TextParts.{note_put}
use Rattle.xmp_write.proofs.writing.put_note_line.Goals as goal

pub returns : goal.returns
returns c = note_put c.args.prefixes.now c.prefix_of.result.now c.args.digits.now c.args.digits.now c.prefix_of.ensures refl c.put_simple-at.ensures c.put.ensures
