use Rattle.round_trip.proofs.Meanings.{packet_reads_back}
use Rattle.round_trip.proofs.laws.packet_reads_back.Goals as goal

pub returns : goal.returns
returns c = packet_reads_back
