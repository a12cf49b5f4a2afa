use Rattle.tiff_dirs.proofs.Exchanged.{exchanged}
use Rattle.tiff_dirs.proofs.laws.exchange.Goals as goal

pub returns : goal.returns
returns c = exchanged
