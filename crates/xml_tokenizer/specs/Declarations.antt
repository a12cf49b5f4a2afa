-- Reading an XML declaration (XML 1.0, productions 23 to 26, 32 and 80).
use Rattle.std.specs.Prelude.{ℕ, Bool, List, [], ◌∷◌, Option, None, Some, codes, if◌then◌else◌, encode_utf8_all}
use Rattle.xmp_values.specs.Characters.{is_blank, is_name_char}
use Rattle.xml_grammar.specs.Spelling.{is_digit}
use Rattle.xml_tokenizer.specs.Runs.{taken, past, after, starts_with}
use Rattle.xml_tokenizer.specs.Sections.{starts_blank}
use Rattle.std.specs.Option.{option_or}
use Rattle.xml_tokenizer.specs.Steps.{◌>>=◌}
use Rattle.xml_tokenizer.specs.Values.{equals_at, quote_at}

-- white space, a word, `=` and a quote
unfoldable pub given_at : List ℕ → List ℕ → Option (ℕ × List ℕ)
given_at word cs = if starts_blank cs then (after word (past is_blank cs) >>= λ x. equals_at x >>= λ y. quote_at y) else None

-- a run, not empty, and the quote after it
unfoldable pub quoted_run_at : (ℕ → Bool) → ℕ → List ℕ → Option (List ℕ × List ℕ)
quoted_run_at p quote cs =
    if starts_with p cs then (after (quote ∷ []) (past p cs) >>= λ rest. Some (encode_utf8_all (taken p cs), rest)) else None

unfoldable pub version_at : List ℕ → Option (List ℕ)
version_at cs = do
  quote ← given_at (codes "version") cs
  digits ← after (codes "1.") quote.1
  version ← quoted_run_at (is_digit 10) quote.0 digits
  Some version.1

-- the encoding that is named, and what follows, or neither
unfoldable pub encoding_at : List ℕ → Option (List ℕ × List ℕ)
encoding_at cs = given_at (codes "encoding") cs >>= λ quote. quoted_run_at is_name_char quote.0 quote.1

abbrev pub optional : List ℕ → Option (List ℕ × List ℕ) → Option (List ℕ) × List ℕ
optional cs None = (None, cs)
optional cs (Some x) = (Some x.0, x.1)

abbrev pub answer_at : List ℕ → Option (List ℕ)
answer_at cs = option_or (after (codes "yes") cs) (after (codes "no") cs)

unfoldable pub standalone_at : List ℕ → Option (List ℕ)
standalone_at cs = given_at (codes "standalone") cs >>= λ quote. answer_at quote.1 >>= λ x. after (quote.0 ∷ []) x

abbrev pub or_here : List ℕ → Option (List ℕ) → List ℕ
or_here cs None = cs
or_here cs (Some rest) = rest

-- after `<?xml`: the encoding that is named
unfoldable pub declaration_at : List ℕ → Option (Option (List ℕ) × List ℕ)
declaration_at cs = version_at cs >>= λ x.
    let named = optional x (encoding_at x) in
    let alone = or_here named.1 (standalone_at named.1) in
    after (codes "?>") (past is_blank alone) >>= λ rest. Some (named.0, rest)
