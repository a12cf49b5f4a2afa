use Rattle.jpeg_extended.proofs.NewPortions.{joins_again}
use Rattle.jpeg_extended.proofs.laws.joins_again.Goals as goal

pub returns : goal.returns
returns c = joins_again
