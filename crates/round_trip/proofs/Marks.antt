-- The attributes of written elements, as tags spell them.
use Rattle.std.proofs.Common.{◌≡◌, ℕ, Bool, false, List, [], ◌∷◌, ◌++◌, Option, Some, None, refl, ap, sym, subst, ◌∙◌, append_assoc, append-nil, true}
use Rattle.std.specs.Prelude.{codes, encode_utf8_all}
use Rattle.std.specs.List.{list_any}
use lib.Utf8.{encode}
use Rattle.std.proofs.lemmas.Bool.{or_from}
use Rattle.std.proofs.lemmas.Str.{encodes-append}
use Rattle.xmp_values.specs.Characters.{is_char, is_blank, is_name_start, is_name_char, IsCharText}
use Rattle.xmp_values.proofs.CharacterTexts.{IsCharText-spells}
use Rattle.xml_grammar.specs.declared.elements.Attribute.{Attribute}
use Rattle.xml_grammar.specs.declared.tags.QName.{QName}
use Rattle.xml_grammar.specs.declared.tags.RawAttribute.{RawAttribute}
use Rattle.xml_grammar.specs.Spelling.{SpellsQName, SpellsAttribute, SpellsAttributes, SpellsValue, quoted}
use Rattle.xmp_values.specs.Names.{same_name}
use Rattle.xml_grammar.specs.Scopes.{Binding, bindings_of, plain_attributes, bound_to, expanded_attributes, is_unbound, same_qname}
use Rattle.xml_grammar.specs.Nesting.{has_twice}
use Rattle.xmp_tree.specs.Wf.{lang_name}
use Rattle.rdf_forms.specs.Words.{rdf_space, xml_space}
use Rattle.xmp_write.specs.Text.{quoted_byte, quoted_escaped, attribute_text, lang_text, parse_text}
use Rattle.round_trip.specs.Elements.{Mark, Plain, Parsed, Resource}
use Rattle.round_trip.proofs.Escapes.{quoted_escapes, escaped_chars, scalars_append, quoted_scalars}
use Rattle.std.proofs.Math.Utf8.{scalars}
use Rattle.round_trip.proofs.Quoted.{value_spelled}
use Rattle.round_trip.proofs.Marked.{row}
use Rattle.round_trip.proofs.Tags.{IsGoodTag}

abbrev pub in_xml_prefix : List ℕ → QName
in_xml_prefix local = record { prefix = Some (codes "xml"); local = local }

abbrev pub in_rdf_prefix : List ℕ → QName
in_rdf_prefix local = record { prefix = Some (codes "rdf"); local = local }

abbrev pub lang_raws : Option (List ℕ) → List RawAttribute
lang_raws None = []
lang_raws (Some tag) = record { name = in_xml_prefix (codes "lang"); value = tag } ∷ []

abbrev pub mark_raws : Mark → List RawAttribute
mark_raws Plain = []
mark_raws Parsed = record { name = in_rdf_prefix (codes "parseType"); value = codes "Resource" } ∷ []
mark_raws (Resource uri) = record { name = in_rdf_prefix (codes "resource"); value = uri } ∷ []

abbrev pub raws : Option (List ℕ) → Mark → List RawAttribute
raws lang mark = lang_raws lang ++ mark_raws mark

abbrev pub mark_text : Mark → List ℕ
mark_text Plain = []
mark_text Parsed = parse_text
mark_text (Resource uri) = attribute_text (codes "rdf:resource") uri

-- ---- how they are spelled

abbrev pub AreSpelled : List RawAttribute → List ℕ → Type 0
AreSpelled xs bytes = (chars : List ℕ) × SpellsAttributes xs chars × (bytes ≡ encode_utf8_all chars) × (scalars chars ≡ true)

pub none_spelled : AreSpelled [] []
none_spelled = ([], refl, refl, refl)

module _ (q : QName) (word bytes : List ℕ) (named : SpellsQName q word) (ascii : encode_utf8_all word ≡ bytes) (plain : scalars word ≡ true) where
  attribute_bytes : (cs : List ℕ) → attribute_text bytes (encode_utf8_all cs) ≡ encode_utf8_all (codes " " ++ (word ++ codes "=" ++ quoted 0x22 (quoted_escaped cs)))
  unfolding encode
  attribute_bytes cs =
      ap (λ (t : List ℕ). codes " " ++ bytes ++ codes "=\"" ++ t ++ codes "\"") (escaped_chars quoted_byte quoted_escapes cs)
      ∙ five (codes " ") bytes (codes "=\"") (encode_utf8_all (quoted_escaped cs)) (codes "\"")
      ∙ ap (λ (t : List ℕ). 0x20 ∷ t)
      (ap (λ (t : List ℕ). t ++ (0x3D ∷ 0x22 ∷ (encode_utf8_all (quoted_escaped cs) ++ codes "\""))) (sym ascii)
      ∙ ap (λ (t : List ℕ). encode_utf8_all word ++ (0x3D ∷ 0x22 ∷ t)) (sym (encodes-append (quoted_escaped cs) (codes "\"")))
      ∙ sym (encodes-append word (0x3D ∷ 0x22 ∷ (quoted_escaped cs ++ codes "\"")))
      ∙ ap encode_utf8_all (sym (append_assoc word (codes "=") (quoted 0x22 (quoted_escaped cs)))))
    where
      five : (a b c d e : List ℕ) → a ++ b ++ c ++ d ++ e ≡ a ++ (b ++ (c ++ (d ++ e)))
      five a b c d e = simp append_assoc

  pub more_spelled : (value : List ℕ) → IsCharText value → (xs : List RawAttribute) (rest : List ℕ) → AreSpelled xs rest
      → AreSpelled (record { name = q; value = value } ∷ xs) (attribute_text bytes value ++ rest)
  unfolding is_blank
  more_spelled value text xs rest (chars, spelled, utf8, scalar) =
      let t = (IsCharText-spells value).0 text in
      let front : List ℕ = word ++ codes "=" ++ quoted 0x22 (quoted_escaped t.0) in
      let one : SpellsAttribute (record { name = q; value = value }) front = (
        word,
        codes "=",
        quoted 0x22 (quoted_escaped t.0),
        named,
        ([], [], refl, refl, refl),
        subst (λ (v : List ℕ). SpellsValue v (quoted 0x22 (quoted_escaped t.0))) (sym t.1) (value_spelled t.0 t.2),
        refl,
      ) in (
        codes " " ++ front ++ chars,
        (codes " ", front, chars, refl, one, spelled, refl),
        ap (λ (v : List ℕ). attribute_text bytes v ++ rest) t.1
            ∙ ap (λ (b : List ℕ). b ++ rest) (attribute_bytes t.0)
            ∙ ap (λ (b : List ℕ). encode_utf8_all (codes " " ++ front) ++ b) utf8
            ∙ sym (encodes-append (codes " " ++ front) chars),
        scalars_append (codes " " ++ front) chars (scalars_append (codes " ") front refl
            (scalars_append (word ++ codes "=") (quoted 0x22 (quoted_escaped t.0)) (scalars_append word (codes "=") plain refl)
            (scalars_append (codes "\"") (quoted_escaped t.0 ++ codes "\"") refl (scalars_append (quoted_escaped t.0) (codes "\"") (quoted_scalars t.0 t.2) refl)))) scalar,
      )

lang_word : SpellsQName (in_xml_prefix (codes "lang")) (codes "xml:lang") × (encode_utf8_all (codes "xml:lang") ≡ codes "xml:lang")
unfolding encode is_name_start is_name_char
lang_word = ((codes "xml", codes "lang", (refl, refl), (refl, refl), refl), refl)

parse_word : SpellsQName (in_rdf_prefix (codes "parseType")) (codes "rdf:parseType") × (encode_utf8_all (codes "rdf:parseType") ≡ codes "rdf:parseType")
unfolding encode is_name_start is_name_char
parse_word = ((codes "rdf", codes "parseType", (refl, refl), (refl, refl), refl), refl)

resource_word : SpellsQName (in_rdf_prefix (codes "resource")) (codes "rdf:resource") × (encode_utf8_all (codes "rdf:resource") ≡ codes "rdf:resource")
unfolding encode is_name_start is_name_char
resource_word = ((codes "rdf", codes "resource", (refl, refl), (refl, refl), refl), refl)

resource_text : IsCharText (codes "Resource")
unfolding encode is_char
resource_text = (IsCharText-spells (codes "Resource")).1 (codes "Resource", refl, refl)

abbrev pub IsTag : Option (List ℕ) → Type 0
IsTag None = Unit {0}
IsTag (Some tag) = IsCharText tag

abbrev pub IsMark : Mark → Type 0
IsMark Plain = Unit {0}
IsMark Parsed = Unit {0}
IsMark (Resource uri) = IsCharText uri

mark_spelled : (mark : Mark) → IsMark mark → AreSpelled (mark_raws mark) (mark_text mark)
mark_spelled Plain h = none_spelled
mark_spelled Parsed h =
    subst (AreSpelled (mark_raws Parsed)) (append-nil parse_text) (more_spelled (in_rdf_prefix (codes "parseType")) (codes "rdf:parseType") (codes "rdf:parseType") parse_word.0 parse_word.1 refl (codes "Resource") resource_text [] [] none_spelled)
mark_spelled (Resource uri) h =
    subst (AreSpelled (mark_raws (Resource uri))) (append-nil (mark_text (Resource uri))) (more_spelled (in_rdf_prefix (codes "resource")) (codes "rdf:resource") (codes "rdf:resource") resource_word.0 resource_word.1 refl uri h [] [] none_spelled)

pub marks_spelled : (lang : Option (List ℕ)) (mark : Mark) → IsTag lang → IsMark mark → AreSpelled (raws lang mark) (lang_text lang ++ mark_text mark)
marks_spelled None mark h k = mark_spelled mark k
marks_spelled (Some tag) mark h k = more_spelled (in_xml_prefix (codes "lang")) (codes "xml:lang") (codes "xml:lang") lang_word.0 lang_word.1 refl tag h (mark_raws mark) (mark_text mark) (mark_spelled mark k)

-- ---- what they are

-- the prefixes that each text has
pub record IsBase (bs : List Binding) : Type 0 where
  pub rdf : bound_to bs (Some (codes "rdf")) ≡ Some rdf_space
  pub xml : bound_to bs (Some (codes "xml")) ≡ Some xml_space

pub row_is : (bs : List Binding) (lang : Option (List ℕ)) (mark : Mark) → IsBase bs → expanded_attributes bs (raws lang mark) ≡ row lang mark
unfolding lang_name
row_is bs None Plain h = refl
row_is bs None Parsed h = rw h.rdf refl
row_is bs None (Resource uri) h = rw h.rdf refl
row_is bs (Some tag) Plain h = rw h.xml refl
row_is bs (Some tag) Parsed h = rw (h.xml, h.rdf) refl
row_is bs (Some tag) (Resource uri) h = rw (h.xml, h.rdf) refl

pub declares_none : (lang : Option (List ℕ)) (mark : Mark) → bindings_of (raws lang mark) ≡ []
declares_none None Plain = refl
declares_none None Parsed = refl
declares_none None (Resource uri) = refl
declares_none (Some tag) Plain = refl
declares_none (Some tag) Parsed = refl
declares_none (Some tag) (Resource uri) = refl

all_bound : (bs : List Binding) (lang : Option (List ℕ)) (mark : Mark) → IsBase bs → list_any (λ (a : RawAttribute). is_unbound bs a.name.prefix) (plain_attributes (raws lang mark)) ≡ false
all_bound bs None Plain h = refl
all_bound bs None Parsed h = rw h.rdf refl
all_bound bs None (Resource uri) h = rw h.rdf refl
all_bound bs (Some tag) Plain h = rw h.xml refl
all_bound bs (Some tag) Parsed h = rw (h.xml, h.rdf) refl
all_bound bs (Some tag) (Resource uri) h = rw (h.xml, h.rdf) refl

once_each : (lang : Option (List ℕ)) (mark : Mark) → has_twice (λ (a b : RawAttribute). same_qname a.name b.name) (raws lang mark) ≡ false
once_each None Plain = refl
once_each None Parsed = refl
once_each None (Resource uri) = refl
once_each (Some tag) Plain = refl
once_each (Some tag) Parsed = refl
once_each (Some tag) (Resource uri) = refl

apart_each : (lang : Option (List ℕ)) (mark : Mark) → has_twice (λ (a b : Attribute). same_name a.name b.name) (row lang mark) ≡ false
unfolding lang_name rdf_space xml_space same_name
apart_each None Plain = refl
apart_each None Parsed = refl
apart_each None (Resource uri) = refl
apart_each (Some tag) Plain = refl
apart_each (Some tag) Parsed = refl
apart_each (Some tag) (Resource uri) = refl

pub good_tag : (bs : List Binding) (q : QName) (lang : Option (List ℕ)) (mark : Mark) (empty : Bool) → IsBase bs → is_unbound bs q.prefix ≡ false
    → IsGoodTag bs (record { name = q; attributes = raws lang mark; empty = empty })
good_tag bs q lang mark empty h bound = record {
  declares_none = declares_none lang mark;
  bound = or_from (is_unbound bs q.prefix) (list_any (λ (a : RawAttribute). is_unbound bs a.name.prefix) (plain_attributes (raws lang mark))) bound (all_bound bs lang mark h);
  once = once_each lang mark;
  apart = ap (λ (xs : List Attribute). has_twice (λ (a b : Attribute). same_name a.name b.name) xs) (row_is bs lang mark h) ∙ apart_each lang mark;
}
