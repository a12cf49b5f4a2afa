use Rattle.rdf_soundness.proofs.Values.{formed_property}
use Rattle.rdf_soundness.proofs.laws.formed_properties.Goals as goal

pub returns : goal.returns
returns c = formed_property
