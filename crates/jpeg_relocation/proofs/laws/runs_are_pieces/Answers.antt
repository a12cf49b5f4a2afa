use Rattle.jpeg_relocation.proofs.Pieces.{runs_are_pieces}
use Rattle.jpeg_relocation.proofs.laws.runs_are_pieces.Goals as goal

pub returns : goal.returns
returns c = runs_are_pieces
