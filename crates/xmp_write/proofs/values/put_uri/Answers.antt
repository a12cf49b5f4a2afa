use Rattle.xmp_write.proofs.PlacedPieces.{◌▸◌}
use Rattle.xmp_write.proofs.values.put_uri.Goals as goal

pub returns : goal.returns
returns c = c.put_start-at.ensures ▸ c.put_resource-at.ensures ▸ c.put.ensures
