use Rattle.xmp_rdf.proofs.SettledReadings as settled
use Rattle.xmp_rdf.proofs.laws.settled_reading.Goals as goal

pub returns : goal.returns
returns c = settled.settled_reading
