use Rattle.round_trip.proofs.Meanings.{split_reads_back}
use Rattle.round_trip.proofs.laws.split_reads_back.Goals as goal

pub returns : goal.returns
returns c = split_reads_back
