use Rattle.xml_grammar.proofs.KindsByText.{comment_begins, cdata_begins, head_begins, ampersand_begins, doctype_begins, tag_begins}
use Rattle.xml_grammar.proofs.laws.beginnings.Goals as goal

pub returns-clause-comment : goal.returns-clause-comment
returns-clause-comment c = comment_begins

pub returns-clause-cdata : goal.returns-clause-cdata
returns-clause-cdata c = cdata_begins

pub returns-clause-instruction : goal.returns-clause-instruction
returns-clause-instruction c = head_begins

pub returns-clause-reference : goal.returns-clause-reference
returns-clause-reference c = ampersand_begins

pub returns-clause-doctype : goal.returns-clause-doctype
returns-clause-doctype c = doctype_begins

pub returns-clause-tag : goal.returns-clause-tag
returns-clause-tag c = tag_begins
