use Rattle.xml_grammar.proofs.LowTrees.{low_document}
use Rattle.xml_grammar.proofs.laws.document_height.Goals as goal

pub returns : goal.returns
returns c = low_document
