use Rattle.xml_grammar.proofs.OneMeaning.{one_document}
use Rattle.xml_grammar.proofs.laws.one_document.Goals as goal

pub returns : goal.returns
returns c = one_document
