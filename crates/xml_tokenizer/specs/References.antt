-- Reading references (XML 1.0, section 4.1), each after its `&`.
use Rattle.std.specs.Prelude.{ℕ, ◌+◌, ◌*◌, min, Bool, false, ◌&&◌, List, [], ◌∷◌, Option, None, Some, codes, if◌then◌else◌}
use Rattle.std.specs.Char.{digit_value}
use Rattle.xmp_values.specs.Characters.{is_char}
use Rattle.xml_grammar.specs.Spelling.{is_digit}
use Rattle.xml_tokenizer.specs.Runs.{taken, past, after}
use Rattle.std.specs.Option.{option_or}
use Rattle.xml_tokenizer.specs.Steps.{◌>>=◌}

abbrev pub named_at : List ℕ → ℕ → List ℕ → Option (ℕ × List ℕ)
named_at word c cs = after word cs >>= λ rest. Some (c, rest)

unfoldable pub entity_at : List ℕ → Option (ℕ × List ℕ)
entity_at cs =
    option_or (named_at (codes "lt;") 0x3C cs)
    (option_or (named_at (codes "gt;") 0x3E cs)
    (option_or (named_at (codes "amp;") 0x26 cs)
    (option_or (named_at (codes "apos;") 0x27 cs) (named_at (codes "quot;") 0x22 cs))))

-- one more than any character, where numbers stop to grow
abbrev pub no_char : ℕ
no_char = 0x110000

-- the number that digits give after n, or no_char where it is greater
abbrev pub capped_from : ℕ → ℕ → List ℕ → ℕ
capped_from base n [] = n
capped_from base n (d ∷ ds) = capped_from base (min (n * base + digit_value d) no_char) ds

abbrev pub starts_digit : ℕ → List ℕ → Bool
starts_digit base [] = false
starts_digit base (c ∷ cs) = is_digit base c

-- digits, at least one, of which the number is a Char, and `;`
unfoldable pub number_at : ℕ → List ℕ → Option (ℕ × List ℕ)
number_at base cs =
    let n = capped_from base 0 (taken (is_digit base) cs) in
    if starts_digit base cs && is_char n then (after (codes ";") (past (is_digit base) cs) >>= λ rest. Some (n, rest)) else None

abbrev pub numeric_at : List ℕ → Option (List ℕ) → Option (ℕ × List ℕ)
numeric_at cs (Some rest) = number_at 16 rest
numeric_at cs None = number_at 10 cs

abbrev pub marked_at : List ℕ → Option (List ℕ) → Option (ℕ × List ℕ)
marked_at cs (Some rest) = numeric_at rest (after (codes "x") rest)
marked_at cs None = entity_at cs

unfoldable pub reference_at : List ℕ → Option (ℕ × List ℕ)
reference_at cs = marked_at cs (after (codes "#") cs)
