use Rattle.tiff_relocation.proofs.OldBytes.{old_bytes_stay}
use Rattle.tiff_relocation.proofs.laws.old_bytes_stay.Goals as goal

pub returns : goal.returns
returns c = old_bytes_stay
