use Rattle.xmp_write.proofs.PlacedPieces.{◌▸◌}
use Rattle.xmp_write.proofs.placing.put_start.Goals as goal

pub returns : goal.returns
returns c = c.put-at.ensures ▸ c.put_name.ensures
