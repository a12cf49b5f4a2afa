-- Reading comments, CDATA sections and instructions (XML 1.0, productions 15 to 21).
use Rattle.std.specs.Prelude.{ℕ, Bool, false, List, [], ◌∷◌, Option, None, Some, codes, if◌then◌else◌, encode_utf8_all}
use Rattle.std.specs.Str.{str_eq_ignore_ascii_case}
use Rattle.xmp_values.specs.Characters.{is_blank}
use Rattle.xml_grammar.specs.Spelling.{line_ends}
use Rattle.xml_tokenizer.specs.Names.{name_at}
use Rattle.xml_tokenizer.specs.Runs.{after, up_to}
use Rattle.xml_tokenizer.specs.Steps.{◌>>=◌}

-- after `<!--`
unfoldable pub comment_at : List ℕ → Option (List ℕ)
comment_at cs = up_to (codes "--") cs >>= λ x. after (codes ">") x.1

-- after `<![CDATA[`: the bytes that the section stands for
unfoldable pub cdata_at : List ℕ → Option (List ℕ × List ℕ)
cdata_at cs = up_to (codes "]]>") cs >>= λ x. Some (encode_utf8_all (line_ends x.0), x.1)

abbrev pub starts_blank : List ℕ → Bool
starts_blank [] = false
starts_blank (c ∷ cs) = is_blank c

-- after an instruction's target
abbrev pub body_at : List ℕ → Option (List ℕ) → Option (List ℕ)
body_at cs (Some rest) = Some rest
body_at cs None = if starts_blank cs then (up_to (codes "?>") cs >>= λ x. Some x.1) else None

-- after `<?`
unfoldable pub instruction_at : List ℕ → Option (List ℕ)
instruction_at cs = name_at cs >>= λ x.
    if str_eq_ignore_ascii_case x.0 (codes "xml") then None else body_at x.1 (after (codes "?>") x.1)
