use Rattle.jpeg_regions.proofs.Exchanges.{exchanged_cuts}
use Rattle.jpeg_regions.proofs.laws.exchange.Goals as goal

pub returns : goal.returns
returns c = exchanged_cuts
