use Rattle.tiff_dirs.proofs.Framed.{framed}
use Rattle.tiff_dirs.proofs.laws.frame.Goals as goal

pub returns : goal.returns
returns c = framed
