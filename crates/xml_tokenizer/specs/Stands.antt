-- What is left after a token, and why there is none at a place.
use Rattle.std.specs.Prelude.{◌≡◌, ◌≢◌, ◌<◌, ℕ, List, [], ◌++◌, length}
use Rattle.xml_grammar.specs.declared.tokens.Mode.{Mode}
use Rattle.xml_grammar.specs.Documents.{IsRule}
use Rattle.xml_grammar.specs.Nesting.{Nest, mode_of}
use Rattle.xml_grammar.specs.Pieces.{HasPiece}
use Rattle.xmp_values.specs.declared.rules.Rule.{Rule}

-- No piece stands at the front, and at each place of this mode the rule is the one for what is left.
abbrev pub IsRuleIn : Mode → List ℕ → Rule → Type 0
IsRuleIn mode cs r = (HasPiece mode cs → ⊥) × (cs ≢ [] → (s : Nest) → mode_of s ≡ mode → IsRule s cs r)

-- the rest is what is left after a front of the text, of one byte at least
abbrev pub IsAfter : List ℕ → List ℕ → Type 0
IsAfter text rest = (front : List ℕ) × (text ≡ front ++ rest) × (0 < length front)
