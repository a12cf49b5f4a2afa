-- A value that is put with its qualifiers.
use Rattle.std.proofs.Common.{◌≡◌, ℕ, ◌<◌, List, ◌++◌, length, Option, None, ap, ◌∙◌}
use Rattle.std.specs.Prelude.{codes}
use Rattle.std.specs.List.{flat_map}
use Rattle.xmp_values.specs.declared.hints.Hint.{Hint}
use Rattle.xmp_tree.specs.declared.nested.Value.{Value, out-Value}
use Rattle.xmp_tree.specs.declared.nested.Member.{Member}
use Rattle.xmp_write.specs.Text.{lang_text, parse_text, element_text, value_text, shape_text, member_text}
use Rattle.xmp_write.specs.Placing.{Puts, lang_of, others_of}
use Rattle.xmp_write.proofs.PlacedPieces.{◌▸◌, puts_as, ended}
use Rattle.xmp_write.proofs.TextLevels.{plain_value, qualified_value}

module _ (ps : List Hint) (name : List ℕ) (v : Value) (quals others : List Member) (lang : Option (List ℕ))
    (are : quals ≡ (out-Value v).quals) (rest : others ≡ others_of quals) (tag : lang ≡ lang_of quals) where
  rest_is : others ≡ others_of (out-Value v).quals
  rest_is = rest ∙ ap others_of are

  tag_is : lang ≡ lang_of (out-Value v).quals
  tag_is = tag ∙ ap lang_of are

  -- without other qualifiers
  pub plain_put : {a b : List ℕ} {i j : ℕ} → length others ≡ 0 → Puts a b i j (shape_text ps name lang (out-Value v).shape) → Puts a b i j (value_text ps name v)
  plain_put none put =
      puts_as (value_text ps name v) put (ap (λ lang. shape_text ps name lang (out-Value v).shape) tag_is ∙ plain_value ps name v others rest_is none)

  -- with others, after `rdf:value`
  pub qualified_put : {a b c d e f g : List ℕ} {h i j k l m n : ℕ} (held : List ℕ) → 0 < length others
      → held ≡ codes "rdf:value" → Puts a b h i (codes "<" ++ name) → Puts b c i j (lang_text lang ++ parse_text) → Puts c d j k (codes ">")
      → Puts d e k l (shape_text ps held None (out-Value v).shape) → Puts e f l m (flat_map (member_text ps) others)
      → Puts f g m n (codes "</" ++ name ++ codes ">") → Puts a g h n (value_text ps name v)
  qualified_put held some named start attributes close shape more end =
      puts_as (value_text ps name v) (ended name (start ▸ attributes ▸ close ▸ (shape ▸ more)) end)
      (ap (λ lang. element_text name (lang_text lang ++ parse_text) (shape_text ps held None (out-Value v).shape ++ flat_map (member_text ps) others)) tag_is
      ∙ ap (λ held. element_text name (lang_text (lang_of (out-Value v).quals) ++ parse_text) (shape_text ps held None (out-Value v).shape ++ flat_map (member_text ps) others)) named
      ∙ ap (λ rest. element_text name (lang_text (lang_of (out-Value v).quals) ++ parse_text) (shape_text ps (codes "rdf:value") None (out-Value v).shape ++ flat_map (member_text ps) rest)) rest_is
      ∙ qualified_value ps name v others rest_is some)
