use Rattle.jpeg_relocation.proofs.Relocated.{new_lengths}
use Rattle.jpeg_relocation.proofs.laws.new_lengths.Goals as goal

pub returns : goal.returns
returns c = new_lengths
