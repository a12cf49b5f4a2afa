-- Reading names (Namespaces in XML 1.0, productions 4 and 7).
use Rattle.std.specs.Prelude.{ℕ, Bool, false, List, [], ◌∷◌, Option, None, Some, codes, if◌then◌else◌, encode_utf8_all}
use Rattle.xmp_values.specs.Characters.{is_name_start, is_name_char}
use Rattle.xml_grammar.specs.declared.tags.QName.{QName}
use Rattle.xml_tokenizer.specs.Runs.{taken, past, after}
use Rattle.xml_tokenizer.specs.Steps.{◌>>=◌}

abbrev pub starts_name : List ℕ → Bool
starts_name [] = false
starts_name (c ∷ cs) = is_name_start c

-- a name without colon
unfoldable pub name_at : List ℕ → Option (List ℕ × List ℕ)
name_at cs = if starts_name cs then Some (encode_utf8_all (taken is_name_char cs), past is_name_char cs) else None

-- after a name: a colon and a second name, or neither
abbrev pub local_at : List ℕ → List ℕ → Option (List ℕ) → Option (QName × List ℕ)
local_at name cs None = Some (record { prefix = None; local = name }, cs)
local_at name cs (Some rest) = name_at rest >>= λ x. Some (record { prefix = Some name; local = x.0 }, x.1)

unfoldable pub qname_at : List ℕ → Option (QName × List ℕ)
qname_at cs = name_at cs >>= λ x. local_at x.0 x.1 (after (codes ":") x.1)
