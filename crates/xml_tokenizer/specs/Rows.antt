-- What a reader takes at once: pieces that aren't tags, one after the other. No definition of a document rests on it.
use Rattle.std.specs.Prelude.{◌≡◌, ℕ, List, [], ◌∷◌, ◌++◌, chars, map, encode_utf8_all}
use Rattle.xml_grammar.specs.declared.tokens.Mode.{Mode}
use Rattle.xml_grammar.specs.declared.tokens.Mode.TheVariants as modes
use Rattle.xml_grammar.specs.declared.tokens.Token.{Token}
use Rattle.xml_grammar.specs.declared.tokens.Token.TheVariants as tokens
use Rattle.xml_grammar.specs.Pieces.{Piece, Declaration, Instruction, Comment, Cdata, Start, End, Reference, LineEnd, Character, Stands}

-- where the next piece stands, if none of them is a tag
abbrev pub later : Mode → Mode
later modes.Start = modes.Outside
later modes.Outside = modes.Outside
later modes.Inside = modes.Inside

-- pieces that are no tags stand one after the other, before what is left
abbrev pub StandsRow : Mode → List Piece → List ℕ → List ℕ → Type 0
StandsRow mode [] text left = text ≡ left
StandsRow mode (p ∷ ps) text left = (front : List ℕ) × (back : List ℕ) × Stands mode p front back × StandsRow (later mode) ps back left × (text ≡ front ++ back)

-- the pieces that a token stands for
abbrev pub pieces_of : Token → List Piece
pieces_of (tokens.Declaration encoding) = Declaration encoding ∷ []
pieces_of tokens.Instruction = Instruction ∷ []
pieces_of tokens.Comment = Comment ∷ []
pieces_of (tokens.Cdata text) = Cdata text ∷ []
pieces_of (tokens.Start tag) = Start tag ∷ []
pieces_of (tokens.End name) = End name ∷ []
pieces_of (tokens.Reference c) = Reference c ∷ []
pieces_of tokens.LineEnd = LineEnd ∷ []
pieces_of (tokens.Run text) = map Character (chars text)

-- the bytes of a run are those of its characters
abbrev pub IsSpelled : Token → Type 0
IsSpelled (tokens.Run text) = encode_utf8_all (chars text) ≡ text
IsSpelled token = Unit {0}
