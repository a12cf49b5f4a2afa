use Rattle.xmp_rdf.proofs.PartLaws.{digits-read}
use Rattle.xmp_rdf.proofs.parting.digits_in.Goals as goal

pub returns : goal.returns
returns c = digits-read c.args.text.now c.read.result c.read.ensures
