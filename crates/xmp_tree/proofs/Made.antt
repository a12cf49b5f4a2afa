-- That what is made is well-formed: for those who build trees.
use Rattle.std.proofs.Common.{◌≡◌, ◌+◌, ◌≤◌, ◌++◌, ℕ, List, [], ◌∷◌, length, get_or, arith, sym, subst, ap, refl}
use Rattle.std.specs.Prelude.{All, Any}
use Rattle.std.proofs.lemmas.List.{get_or_default}
use Rattle.std.proofs.lemmas.List.Elements.{All-nil, All-cons, All-append}
use Rattle.std.proofs.lemmas.List.Quantifiers.{all_pairs_push}
use Rattle.xmp_values.specs.declared.text.Name.{Name}
use Rattle.std.specs.Prelude.{codes}
use Rattle.std.specs.Char.{encode_utf8}
use Rattle.xmp_values.specs.Characters.{IsCharText, is_char, is_name_start, is_name_char}
use Rattle.xmp_values.proofs.CharacterTexts.{IsCharText-spells}
use Rattle.xmp_tree.proofs.KnownNames.{lang_not_type}
use Rattle.xmp_tree.specs.declared.nested.Member.{Member, rolls-Member', out-roll-Member}
use Rattle.xmp_tree.specs.declared.nested.Value.{Value, out-roll-Value}
use Rattle.xmp_tree.specs.declared.nested.Shape.{Shape, Simple, Uri, out-Shape}
use denote.Hole.Carrier.{out}
use Rattle.xmp_tree.specs.Parts.{Parts, member, value, simple}
use Rattle.xmp_tree.specs.Wf.{name_of, value_of, NamesDiffer, IsNamed, IsOwnSpace, IsWfValue, IsWfShape, IsWfMember, member_depth, value_depth, shape_depth, AreWithin, AreFields, AreQualifiers, IsQualifier, AreWellFormed, AreWellFormedQualifiers, IsPlain, IsPlainUri, rdf_space, xml_space, lang_name, type_name, note_name, Wf}
use Rattle.xmp_tree.proofs.WfLemmas.{IsWfValue-in, value_depth-in}

-- the name and the value of what is made of them
pub name-member : (n : Name) (v : Value) → name_of (member n v) ≡ n
name-member n v = ap (λ m. m.name) (out-roll-Member record { name = n; value = v })

pub value-member : (n : Name) (v : Value) → value_of (member n v) ≡ v
value-member n v = ap (λ m. m.value) (out-roll-Member record { name = n; value = v })

pub formed_member : (n : Name) (v : Value) → IsNamed n → IsWfValue v → IsWfMember (member n v)
formed_member n v named formed = subst IsWfMember (sym (rolls-Member' record { name = n; value = v })) (named, formed)

pub depth-member : (n : Name) (v : Value) → member_depth (member n v) ≡ value_depth v
depth-member n v = ap member_depth (rolls-Member' record { name = n; value = v })

pub formed_value : (s : Shape) (q : List Member) → IsWfShape s → All IsWfMember q → AreQualifiers q → IsWfValue (value s q)
formed_value s q formed each quals =
    IsWfValue-in (value s q) (rw (out-roll-Value record { shape = s; quals = q }) (formed, (each, quals)))

pub depth-value : (d : ℕ) (s : Shape) (q : List Member) → shape_depth s ≤ d → All (λ m. member_depth m ≤ d) q → value_depth (value s q) ≤ d + 1
depth-value d s q shallow each =
    value_depth-in d (value s q) (rw (out-roll-Value record { shape = s; quals = q }) (shallow, each))

-- no members
apart_none : NamesDiffer []
apart_none i j d lt within = absurd (omega arith)

pub within_none : (room : ℕ) → AreWithin room []
within_none room = record { each = All-nil IsWfMember; shallow = All-nil (λ m. member_depth m ≤ room) }

pub fields_none : AreFields []
fields_none = record { apart = apart_none; own = All-nil (λ m. IsOwnSpace (name_of m).space) }

pub quals_none : AreQualifiers []
quals_none = record { apart = apart_none; each = All-nil IsQualifier; lang_first = λ i j d lt within. absurd (omega arith) }

pub formed_none : (room : ℕ) → AreWellFormed room []
formed_none room = record { within = within_none room; fields = fields_none }

pub formed_quals_none : (room : ℕ) → AreWellFormedQualifiers room []
formed_quals_none room = record { within = within_none room; quals = quals_none }

-- a simple text or a URI with no qualifier
pub formed_simple : (text : List ℕ) → IsCharText text → IsWfValue (simple text)
formed_simple text chars = formed_value (Simple text) [] chars (All-nil IsWfMember) quals_none

pub depth-simple : (text : List ℕ) → value_depth (simple text) ≤ 1
depth-simple text = depth-value 0 (Simple text) [] (omega arith) (All-nil (λ m. member_depth m ≤ 0))

pub formed_uri : (text : List ℕ) → IsCharText text → IsWfValue (value (Uri text) [])
formed_uri text chars = formed_value (Uri text) [] chars (All-nil IsWfMember) quals_none

pub depth-uri : (text : List ℕ) → value_depth (value (Uri text) []) ≤ 1
depth-uri text = depth-value 0 (Uri text) [] (omega arith) (All-nil (λ m. member_depth m ≤ 0))

-- One more member, whose name is new.
module _ (ms : List Member) (m : Member) where
  abbrev IsNew : Type 0
  IsNew = Any (λ n. name_of n ≡ name_of m) ms → ⊥

  apart_more : NamesDiffer ms → IsNew → NamesDiffer (ms ++ m ∷ [])
  apart_more apart new =
      all_pairs_push (λ m n. name_of m ≡ name_of n → ⊥) ms m apart
      (λ k d within same. new (k, get_or ms k d, within, get_or_default ms k _ d within, same))

  pub within_more : (room : ℕ) → AreWithin room ms → IsWfMember m → member_depth m ≤ room → AreWithin room (ms ++ m ∷ [])
  within_more room old formed shallow = record {
    each = All-append IsWfMember ms (m ∷ []) old.each (All-cons IsWfMember m [] formed (All-nil IsWfMember));
    shallow = All-append (λ n. member_depth n ≤ room) ms (m ∷ []) old.shallow
        (All-cons (λ n. member_depth n ≤ room) m [] shallow (All-nil (λ n. member_depth n ≤ room)));
  }

  pub fields_more : AreFields ms → IsOwnSpace (name_of m).space → IsNew → AreFields (ms ++ m ∷ [])
  fields_more old own new = record {
    apart = apart_more old.apart new;
    own = All-append (λ n. IsOwnSpace (name_of n).space) ms (m ∷ []) old.own
        (All-cons (λ n. IsOwnSpace (name_of n).space) m [] own (All-nil (λ n. IsOwnSpace (name_of n).space)));
  }

  -- `xml:lang` is put first
  pub quals_more : AreQualifiers ms → IsQualifier m → (name_of m ≡ lang_name → ms ≡ []) → IsNew → AreQualifiers (ms ++ m ∷ [])
  quals_more old qualifier first new = record {
    apart = apart_more old.apart new;
    each = All-append IsQualifier ms (m ∷ []) old.each (All-cons IsQualifier m [] qualifier (All-nil IsQualifier));
    lang_first = all_pairs_push (λ m n. name_of n ≡ lang_name → ⊥) ms m old.lang_first
        (λ k d within is_lang. let none = ap length (first is_lang) in absurd (omega arith));
  }

  pub formed_more : (room : ℕ) → AreWellFormed room ms → IsWfMember m → member_depth m ≤ room → IsOwnSpace (name_of m).space → IsNew → AreWellFormed room (ms ++ m ∷ [])
  formed_more room old formed shallow own new =
      record { within = within_more room old.within formed shallow; fields = fields_more old.fields own new }

  pub formed_quals_more : (room : ℕ) → AreWellFormedQualifiers room ms → IsWfMember m → member_depth m ≤ room → IsQualifier m → (name_of m ≡ lang_name → ms ≡ []) → IsNew → AreWellFormedQualifiers room (ms ++ m ∷ [])
  formed_quals_more room old formed shallow qualifier first new =
      record { within = within_more room old.within formed shallow; quals = quals_more old.quals qualifier first new }

-- a simple text and a URI, with no qualifier, are plain
pub plain_simple : (text : List ℕ) → IsPlain (simple text)
unfolding out-Shape out
plain_simple text = let parts = out-roll-Value record { shape = Simple text; quals = [] } in (rw parts tt, ap (λ v. v.quals) parts)

pub plain_uri : (text : List ℕ) → IsPlainUri (value (Uri text) [])
unfolding out-Shape out
plain_uri text = let parts = out-roll-Value record { shape = Uri text; quals = [] } in (rw parts tt, ap (λ v. v.quals) parts)

-- a qualifier other than `xml:lang` and `rdf:type`, and these two
pub other_qualifier : (m : Member) → IsOwnSpace (name_of m).space → IsQualifier m
unfolding lang_name type_name
other_qualifier m own = record {
  own = λ not_lang not_type. own;
  lang = λ is_lang. absurd (own.not_xml (ap (λ n. n.space) is_lang));
  kind = λ is_type. absurd (own.not_rdf (ap (λ n. n.space) is_type));
}

pub lang_qualifier : (m : Member) → name_of m ≡ lang_name → IsPlain (value_of m) → IsQualifier m
lang_qualifier m is_lang plain = record {
  own = λ not_lang not_type. absurd (not_lang is_lang);
  lang = λ same. plain;
  kind = λ is_type. absurd (lang_not_type (name_of m) is_lang is_type);
}

pub type_qualifier : (m : Member) → name_of m ≡ type_name → IsPlainUri (value_of m) → IsQualifier m
type_qualifier m is_type plain = record {
  own = λ not_lang not_type. absurd (not_type is_type);
  lang = λ is_lang. absurd (lang_not_type (name_of m) is_lang is_type);
  kind = λ same. plain;
}

-- the names `xml:lang` and `rdf:type` are well-formed
pub named_lang : IsNamed lang_name
unfolding lang_name xml_space is_char is_name_start is_name_char encode_utf8
named_lang = record { chars = (IsCharText-spells xml_space).1 (xml_space, refl, refl); local = (codes "lang", refl, refl) }

pub named_type : IsNamed type_name
unfolding type_name rdf_space is_char is_name_start is_name_char encode_utf8
named_type = record { chars = (IsCharText-spells rdf_space).1 (rdf_space, refl, refl); local = (codes "type", refl, refl) }

-- a tree of properties none of which is the note
pub formed_tree : (t : Parts) → IsCharText t.about → AreWellFormed 24 t.props → All (λ m. name_of m ≡ note_name → ⊥) t.props → Wf t
formed_tree t about props note = record { about = about; props = props; note = note }
