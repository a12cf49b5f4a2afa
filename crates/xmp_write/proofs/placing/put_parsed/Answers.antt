use Rattle.xmp_write.proofs.PlacedPieces.{◌▸◌}
use Rattle.xmp_write.proofs.placing.put_parsed.Goals as goal

pub returns : goal.returns
returns c = c.put_lang-at.ensures ▸ c.put.ensures
