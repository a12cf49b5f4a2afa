use Rattle.mwg_rules.proofs.Stable.{changed_is}
use Rattle.mwg_rules.proofs.laws.stale_is_changed.Goals as goal

pub returns : goal.returns
returns c = changed_is
