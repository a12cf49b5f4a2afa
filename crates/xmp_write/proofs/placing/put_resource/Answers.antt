use Rattle.std.proofs.Common.{ap, codes}
use Rattle.xmp_write.specs.Text.{attribute_text}
use Rattle.xmp_write.proofs.PlacedPieces.{◌▸◌, puts_as}
use Rattle.xmp_write.proofs.placing.put_resource.Goals as goal

pub returns : goal.returns
returns c = c.put_lang-at.ensures
    ▸ puts_as (attribute_text (codes "rdf:resource") c.args.uri.now) c.put_attribute.ensures (ap (λ name. attribute_text name c.args.uri.now) c.rdf.ensures)
