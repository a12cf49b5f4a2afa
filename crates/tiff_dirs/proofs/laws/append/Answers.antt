use Rattle.tiff_dirs.proofs.Appended.{appended}
use Rattle.tiff_dirs.proofs.laws.append.Goals as goal

pub returns : goal.returns
returns c = appended
