use Rattle.round_trip.proofs.FirstUses.{texts_declare_by_use}
use Rattle.round_trip.proofs.laws.texts_declare_by_use.Goals as goal

pub returns : goal.returns
returns c = texts_declare_by_use
