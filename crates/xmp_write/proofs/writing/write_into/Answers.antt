use Rattle.xmp_write.proofs.PlacedPieces.{filled}
use Rattle.xmp_write.proofs.writing.write_into.Goals as goal

pub returns : goal.returns
returns c = filled c.put_text.ensures c.requires.room
