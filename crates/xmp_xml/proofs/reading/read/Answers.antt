use Rattle.std.proofs.Common.{Ok, Err, sym, subst}
use Rattle.xml_grammar.specs.Documents.{IsDocument}
use Rattle.xml_grammar.proofs.SoundHints.{document_sound}
use Rattle.xmp_xml.proofs.Advancing.{each_document, each_fault}
use Rattle.xmp_xml.proofs.reading.read.Goals as goal

pub from_list-declared-requires : goal.from_list-declared-requires
from_list-declared-requires c = (document_sound c.args.text.now c.in-Ok.root c.in-Ok.list c.in-Ok.ensures.document).1

pub invariant_of-result : goal.invariant_of-result
invariant_of-result c = (document_sound c.args.text.now c.in-Ok.root c.in-Ok.list c.in-Ok.ensures.document).0

pub returns-in-Ok-clause-each_document : goal.returns-in-Ok-clause-each_document
returns-in-Ok-clause-each_document c = each_document c.args.text.now (Ok (record { root = c.in-Ok.root; declared = c.from_list-declared.result })) (subst (IsDocument c.args.text.now c.in-Ok.root) (sym c.from_list-declared.ensures) c.in-Ok.ensures.document)

pub returns-in-Ok-clause-each_fault : goal.returns-in-Ok-clause-each_fault
returns-in-Ok-clause-each_fault c = each_fault c.args.text.now (Ok (record { root = c.in-Ok.root; declared = c.from_list-declared.result })) (subst (IsDocument c.args.text.now c.in-Ok.root) (sym c.from_list-declared.ensures) c.in-Ok.ensures.document)

pub returns-in-Err-clause-each_document : goal.returns-in-Err-clause-each_document
returns-in-Err-clause-each_document c = each_document c.args.text.now (Err c.in-Err.stop) c.in-Err.ensures.stop

pub returns-in-Err-clause-each_fault : goal.returns-in-Err-clause-each_fault
returns-in-Err-clause-each_fault c = each_fault c.args.text.now (Err c.in-Err.stop) c.in-Err.ensures.stop
