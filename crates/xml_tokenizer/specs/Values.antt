-- Reading the value of an attribute (XML 1.0, production 10 and section 3.3.3).
use Rattle.std.specs.Prelude.{ℕ, zero, suc, ◌||◌, ◌==◌, List, [], ◌∷◌, ◌++◌, Option, None, Some, codes, if◌then◌else◌, encode_utf8, encode_utf8_all}
use Rattle.xmp_values.specs.Characters.{is_blank}
use Rattle.xml_tokenizer.specs.Classes.{is_value}
use Rattle.xml_tokenizer.specs.Runs.{taken, past, after, width, with_front}
use Rattle.xml_tokenizer.specs.References.{reference_at}
use Rattle.xml_tokenizer.specs.Steps.{◌>>=◌}

-- `=` in white space
unfoldable pub equals_at : List ℕ → Option (List ℕ)
equals_at cs = after (codes "=") (past is_blank cs) >>= λ rest. Some (past is_blank rest)

-- either quote
unfoldable pub quote_at : List ℕ → Option (ℕ × List ℕ)
quote_at [] = None
quote_at (c ∷ cs) = if c == 0x22 || c == 0x27 then Some (c, cs) else None

-- without a LF at its front
abbrev pub past_feed : List ℕ → List ℕ
past_feed [] = []
past_feed (c ∷ cs) = if c == 10 then cs else c ∷ cs

-- a reference, or a literal blank other than a space, which is read as a space
unfoldable pub special_at : List ℕ → Option (ℕ × List ℕ)
special_at [] = None
special_at (c ∷ cs) =
    if c == 38 then reference_at cs
    else if c == 13 then Some (32, past_feed cs)
    else if c == 9 || c == 10 then Some (32, cs)
    else None

abbrev pub ended : Option (List ℕ) → Option (List ℕ × List ℕ) → Option (List ℕ × List ℕ)
ended (Some rest) later = Some ([], rest)
ended None later = later

-- A value's bytes, from a place where its end or no ordinary character stands. The number bounds the steps.
unfoldable pub tail_at : ℕ → ℕ → List ℕ → Option (List ℕ × List ℕ)
tail_at zero quote cs = None
tail_at (suc n) quote cs = ended (after (quote ∷ []) cs) (special_at cs >>= λ s.
    with_front (encode_utf8 s.0 ++ encode_utf8_all (taken (is_value quote) s.1)) (tail_at n quote (past (is_value quote) s.1)))

-- a value after its first quote, up to its second
unfoldable pub value_at : ℕ → List ℕ → Option (List ℕ × List ℕ)
value_at quote cs = with_front (encode_utf8_all (taken (is_value quote) cs)) (tail_at (width cs) quote (past (is_value quote) cs))
