use Rattle.xmp_write.proofs.PlacedPieces.{◌▸◌}
use Rattle.xmp_write.proofs.placing.put_name.Goals as goal

pub returns : goal.returns
returns c = c.put-at.ensures ▸ c.put-at-2.ensures ▸ c.put.ensures
