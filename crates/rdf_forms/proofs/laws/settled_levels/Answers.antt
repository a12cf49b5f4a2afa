use Rattle.rdf_forms.proofs.Settled.{settled_value, settled_visits, settled_meaning}
use Rattle.rdf_forms.proofs.laws.settled_levels.Goals as goal

pub returns-clause-value : goal.returns-clause-value
returns-clause-value c = settled_value

pub returns-clause-visits : goal.returns-clause-visits
returns-clause-visits c = settled_visits

pub returns-clause-meaning : goal.returns-clause-meaning
returns-clause-meaning c = settled_meaning
