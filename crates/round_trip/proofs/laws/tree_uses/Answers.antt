use Rattle.round_trip.proofs.FirstUses.{tree_uses}
use Rattle.round_trip.proofs.laws.tree_uses.Goals as goal

pub returns : goal.returns
returns c = tree_uses
