use Rattle.xml_grammar.proofs.OnePiece.{one_piece}
use Rattle.xml_grammar.proofs.laws.one_piece.Goals as goal

pub returns : goal.returns
returns c = one_piece
