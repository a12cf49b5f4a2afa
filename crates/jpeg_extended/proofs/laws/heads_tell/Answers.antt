use Rattle.jpeg_extended.proofs.Fronts.{head_tells}
use Rattle.jpeg_extended.proofs.laws.heads_tell.Goals as goal

pub returns : goal.returns
returns c = λ name payload place size. head_tells payload name place size
