use Rattle.xmp_rdf.proofs.PartLaws.{told_note}
use Rattle.xmp_rdf.proofs.parting.is_note_member.Goals as goal

pub returns : goal.returns
returns c = told_note c.is_note.result c.args.member.now c.is_note.ensures
