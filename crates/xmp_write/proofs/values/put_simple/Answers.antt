use Rattle.xmp_write.proofs.PlacedPieces.{◌▸◌, ended}
use Rattle.xmp_write.specs.Placing.{spelled_name}
use Rattle.xmp_write.proofs.values.put_simple.Goals as goal

pub returns : goal.returns
returns c =
    ended (spelled_name c.args.name) (c.put_start-at.ensures ▸ c.put_lang-at.ensures ▸ c.put-at.ensures ▸ c.put_escaped-at.ensures) c.put_end.ensures
