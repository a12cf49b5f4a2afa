-- Reading the token at the front of a text.
use Rattle.std.specs.Prelude.{ℕ, Bool, true, false, not, ◌&&◌, ◌==◌, List, [], ◌∷◌, Option, None, Some, codes, if◌then◌else◌, encode_utf8_all}
use Rattle.xml_grammar.specs.declared.tokens.Mode.{Mode}
use Rattle.xml_grammar.specs.declared.tokens.Mode.TheVariants as modes
use Rattle.xml_grammar.specs.declared.tokens.Token.{Token}
use Rattle.xml_grammar.specs.declared.tokens.Token.TheVariants as tokens
use Rattle.xml_tokenizer.specs.Classes.{is_plain}
use Rattle.xml_tokenizer.specs.Declarations.{declaration_at}
use Rattle.xml_tokenizer.specs.References.{reference_at}
use Rattle.xml_tokenizer.specs.Runs.{after, begins}
use Rattle.xml_tokenizer.specs.Sections.{comment_at, cdata_at, instruction_at}
use Rattle.std.specs.Option.{option_or}
use Rattle.xml_tokenizer.specs.Steps.{◌>>=◌}
use Rattle.xml_tokenizer.specs.Tags.{start_at, end_at}
use Rattle.xml_tokenizer.specs.Values.{past_feed}

abbrev pub is_start : Mode → Bool
is_start modes.Start = true
is_start modes.Outside = false
is_start modes.Inside = false

abbrev pub is_inside : Mode → Bool
is_inside modes.Start = false
is_inside modes.Outside = false
is_inside modes.Inside = true

-- after `<?xml`, at the text's start
abbrev pub declared_at : Bool → Option (List ℕ) → Option (Token × List ℕ)
declared_at true (Some rest) = declaration_at rest >>= λ x. Some (tokens.Declaration x.0, x.1)
declared_at true None = None
declared_at false found = None

-- after `<?`
unfoldable pub question_at : Bool → List ℕ → Option (Token × List ℕ)
question_at start cs = option_or (declared_at start (after (codes "xml") cs)) (instruction_at cs >>= λ rest. Some (tokens.Instruction, rest))

abbrev pub comment_or : List ℕ → Option (List ℕ) → Option (Token × List ℕ)
comment_or cs (Some rest) = comment_at rest >>= λ x. Some (tokens.Comment, x)
comment_or cs None = after (codes "[CDATA[") cs >>= λ rest. cdata_at rest >>= λ x. Some (tokens.Cdata x.0, x.1)

-- after `<!`
abbrev pub section_at : List ℕ → Option (Token × List ℕ)
section_at cs = comment_or cs (after (codes "--") cs)

-- after `<`
unfoldable pub markup_at : Bool → List ℕ → Option (Token × List ℕ)
markup_at start [] = None
markup_at start (c ∷ cs) =
    if c == 47 then (end_at cs >>= λ x. Some (tokens.End x.0, x.1))
    else if c == 63 then question_at start cs
    else if c == 33 then section_at cs
    else (start_at (c ∷ cs) >>= λ x. Some (tokens.Start x.0, x.1))

-- does the first character stand for itself; inside an element no `]` does that begins `]]>`
abbrev pub starts_plain : Bool → List ℕ → Bool
starts_plain inside [] = false
starts_plain inside (c ∷ cs) = is_plain c && not (inside && begins (codes "]]>") (c ∷ cs))

-- the longest front of characters that stand for themselves
abbrev pub plain_front : Bool → List ℕ → List ℕ
plain_front inside [] = []
plain_front inside (c ∷ cs) = if starts_plain inside (c ∷ cs) then c ∷ plain_front inside cs else []

-- what follows it
abbrev pub plain_back : Bool → List ℕ → List ℕ
plain_back inside [] = []
plain_back inside (c ∷ cs) = if starts_plain inside (c ∷ cs) then plain_back inside cs else c ∷ cs

unfoldable pub run_at : Bool → List ℕ → Option (Token × List ℕ)
run_at inside cs = if starts_plain inside cs then Some (tokens.Run (encode_utf8_all (plain_front inside cs)), plain_back inside cs) else None

unfoldable pub token_at : Mode → List ℕ → Option (Token × List ℕ)
token_at mode [] = None
token_at mode (c ∷ cs) =
    if c == 60 then markup_at (is_start mode) cs
    else if c == 38 then (reference_at cs >>= λ x. Some (tokens.Reference x.0, x.1))
    else if c == 13 then Some (tokens.LineEnd, past_feed cs)
    else run_at (is_inside mode) (c ∷ cs)
