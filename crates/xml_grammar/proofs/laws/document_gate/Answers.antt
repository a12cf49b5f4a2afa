use Rattle.xml_grammar.proofs.Gate.{gate}
use Rattle.xml_grammar.proofs.laws.document_gate.Goals as goal

pub returns : goal.returns
returns c = gate
