use Rattle.rdf_soundness.proofs.TreeLaw.{formed_tree}
use Rattle.rdf_soundness.proofs.laws.formed_tree.Goals as goal

pub returns : goal.returns
returns c = formed_tree
