use Rattle.rdf_forms.proofs.LeastFound as found
use Rattle.rdf_forms.proofs.laws.least_rule.Goals as goal

pub returns : goal.returns
returns c = found.least_rule
