-- Reading a document from left to right.
use Rattle.std.specs.Prelude.{◌≡◌, ◌≢◌, ◌⊎◌, Bool, ℕ, ◌+◌, not, ◌&&◌, ◌==◌, if◌then◌else◌, List, [], length, Option, Some, None, Result, Ok, Err}
use Rattle.std.specs.List.{prefix_len}
use Rattle.xmp_values.specs.Characters.{is_blank}
use Rattle.xmp_values.specs.declared.hints.Hint.{Hint}
use Rattle.xmp_values.specs.declared.rules.Rule.{Rule}
use Rattle.xmp_values.specs.declared.rules.Rule.TheVariants.{OutsideRoot, Unfinished}
use Rattle.xml_grammar.specs.declared.elements.Element.{Element}
use Rattle.xml_grammar.specs.declared.tokens.Mode.{Mode}
use Rattle.xml_grammar.specs.declared.tokens.Mode.TheVariants as modes
use Rattle.xml_grammar.specs.declared.tokens.Token.{Token}
use Rattle.xml_grammar.specs.declared.tokens.Token.TheVariants as tokens
use Rattle.xml_grammar.specs.Pieces.{Piece, Declaration, Instruction, Comment, Cdata, Start, End, Reference, LineEnd, HasPiece}
use Rattle.xml_tokenizer.specs.Rows.{StandsRow, pieces_of, IsSpelled}
use Rattle.xml_grammar.specs.Nesting.{mode_of, broken}
use Rattle.xml_grammar.specs.Trees.{first_hints}
use Rattle.xml_grammar.specs.Documents.{IsRule}
use Rattle.xmp_xml.specs.declared.builder.Builder.{Builder}
use Rattle.xmp_xml.specs.Building.{is_nil, with_text, after, nest_of}

-- a rule and its place
abbrev pub Fault : Type 0
Fault = Rule × ℕ

-- ---- what a token does

-- where the next piece stands: outside or not, first or not
abbrev pub mode_by : Bool → Bool → Mode
mode_by outside first = if outside then (if first then modes.Start else modes.Outside) else modes.Inside

abbrev pub allowed : Builder → ℕ → Piece → Option Rule → Result Builder Fault
allowed s at p None = Ok (after s at p)
allowed s at p (Some r) = Err (r, at)

-- one piece further
abbrev pub piece_step : Builder → ℕ → Piece → Result Builder Fault
piece_step s at p = allowed s at p (broken (nest_of s) p)

-- a run of characters further: outside the root its first character that isn't blank is a fault
abbrev pub run_step : Builder → ℕ → List ℕ → Result Builder Fault
run_step s at text =
    if is_nil s.outer && not (prefix_len is_blank text == length text) then Err (OutsideRoot, at + prefix_len is_blank text) else Ok (with_text s text)

abbrev pub token_step : Builder → ℕ → Token → Result Builder Fault
token_step s at (tokens.Declaration encoding) = piece_step s at (Declaration encoding)
token_step s at tokens.Instruction = piece_step s at Instruction
token_step s at tokens.Comment = piece_step s at Comment
token_step s at (tokens.Cdata text) = piece_step s at (Cdata text)
token_step s at (tokens.Start tag) = piece_step s at (Start tag)
token_step s at (tokens.End name) = piece_step s at (End name)
token_step s at (tokens.Reference c) = piece_step s at (Reference c)
token_step s at tokens.LineEnd = piece_step s at LineEnd
token_step s at (tokens.Run text) = run_step s at text

-- ---- one token further

-- a token stands at the front of the characters cs, before what is left
pub record Takes (s : Builder) (token : Token) (cs left : List ℕ) : Type 0 where
  pub stands : StandsRow (mode_of (nest_of s)) (pieces_of token) cs left
  pub some : pieces_of token ≢ []
  pub spelled : IsSpelled token

-- the builder and what is left after one token at a place
abbrev pub Advances : Builder → ℕ → List ℕ → Builder → List ℕ → Type 0
Advances s at cs next left = (token : Token) × Takes s token cs left × (token_step s at token ≡ Ok next)

-- no piece stands at the front of what is left, and a rule is the one for it
abbrev pub HasNone : Builder → List ℕ → Rule → Type 0
HasNone s cs r = (HasPiece (mode_of (nest_of s)) cs → ⊥) × IsRule (nest_of s) cs r

-- reading stops with a rule and its place: there is no token at this place, or it breaks the rule
abbrev pub Halts : Builder → ℕ → List ℕ → Rule → ℕ → Type 0
Halts s at cs r place = (HasNone s cs r × (place ≡ at)) ⊎ ((token : Token) × (left : List ℕ) × Takes s token cs left × (token_step s at token ≡ Err (r, place)))

-- ---- the end

-- a root, and the first declaration of each namespace
abbrev pub Contents : Type 0
Contents = Element × List Hint

abbrev pub or_unfinished : ℕ → List Hint → Option Element → Result Contents Fault
or_unfinished at hints None = Err (Unfinished, at)
or_unfinished at hints (Some root) = Ok (root, first_hints hints)

-- the end of the text
abbrev pub finish : Builder → ℕ → Result Contents Fault
finish s at = if is_nil s.outer then or_unfinished at s.hints s.root else Err (Unfinished, at)
