use Rattle.jpeg_relocation.proofs.Relocated.{portions_are_new}
use Rattle.jpeg_relocation.proofs.laws.portions_are_new.Goals as goal

pub returns : goal.returns
returns c = portions_are_new
