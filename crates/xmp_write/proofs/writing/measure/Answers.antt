use Rattle.xmp_write.proofs.PlacedPieces.{measured}
use Rattle.xmp_write.proofs.writing.measure.Goals as goal

pub returns : goal.returns
returns c = measured c.put_text.ensures
