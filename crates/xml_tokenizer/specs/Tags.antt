-- Reading tags (XML 1.0, productions 40 to 42 and 44).
use Rattle.std.specs.Prelude.{ℕ, zero, suc, Bool, true, false, ◌==◌, ◌||◌, List, [], ◌∷◌, Option, None, Some, codes, if◌then◌else◌}
use Rattle.xmp_values.specs.Characters.{is_blank}
use Rattle.xml_grammar.specs.declared.tags.QName.{QName}
use Rattle.xml_grammar.specs.declared.tags.RawAttribute.{RawAttribute}
use Rattle.xml_grammar.specs.declared.tags.Tag.{Tag}
use Rattle.xml_tokenizer.specs.Names.{qname_at}
use Rattle.xml_tokenizer.specs.Runs.{past, after, width}
use Rattle.xml_tokenizer.specs.Steps.{◌>>=◌}
use Rattle.xml_tokenizer.specs.Values.{equals_at, quote_at, value_at}

unfoldable pub attribute_at : List ℕ → Option (RawAttribute × List ℕ)
attribute_at cs = do
  name ← qname_at cs
  equals ← equals_at name.1
  quote ← quote_at equals
  value ← value_at quote.0 quote.1
  Some (record { name = name.0; value = value.0 }, value.1)

-- does a tag's end stand here
abbrev pub closes : List ℕ → Bool
closes [] = false
closes (c ∷ cs) = c == 62 || c == 47

-- attributes, each after white space, up to a tag's end
unfoldable pub attributes_at : ℕ → List ℕ → Option (List RawAttribute × List ℕ)
attributes_at zero cs = None
attributes_at (suc n) cs =
    let later = past is_blank cs in
    if closes later then Some ([], later)
    else if width later == width cs then None
    else (do
      first ← attribute_at later
      more ← attributes_at n first.1
      Some (first.0 ∷ more.0, more.1))

abbrev pub empty_at : List ℕ → Option (List ℕ) → Option (Bool × List ℕ)
empty_at cs (Some rest) = Some (true, rest)
empty_at cs None = after (codes ">") cs >>= λ rest. Some (false, rest)

-- `>` or `/>`
unfoldable pub close_at : List ℕ → Option (Bool × List ℕ)
close_at cs = empty_at cs (after (codes "/>") cs)

-- after `<`
unfoldable pub start_at : List ℕ → Option (Tag × List ℕ)
start_at cs = do
  name ← qname_at cs
  attributes ← attributes_at (width name.1) name.1
  end ← close_at attributes.1
  Some (record { name = name.0; attributes = attributes.0; empty = end.0 }, end.1)

-- after `</`
unfoldable pub end_at : List ℕ → Option (QName × List ℕ)
end_at cs = do
  name ← qname_at cs
  rest ← after (codes ">") (past is_blank name.1)
  Some (name.0, rest)
