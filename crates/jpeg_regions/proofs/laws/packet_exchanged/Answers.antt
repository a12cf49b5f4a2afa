use Rattle.jpeg_regions.proofs.InPlace.{packet_in_place}
use Rattle.jpeg_regions.proofs.laws.packet_exchanged.Goals as goal

pub returns : goal.returns
returns c = packet_in_place
