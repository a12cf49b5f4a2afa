-- Attributes as members, and the value by attributes.
use Rattle.std.proofs.Common.{◌≡◌, ◌≢◌, ℕ, ◌≤◌, Bool, true, false, ◌⊎◌, inl, inr, ⊎_elim, List, [], ◌++◌, map, get_or, Option, Some, None, ap, sym, subst, ◌∙◌, append-nil, arith}
use Rattle.std.specs.Prelude.{All, AllPairs, option_map, codes}
use Rattle.std.proofs.lemmas.Bool.{both_ways}
use Rattle.std.proofs.lemmas.List.{get_or-map, length-map}
use Rattle.std.proofs.lemmas.List.Elements.{All-map, All-weaker, All-filter, filter_passes}
use Rattle.std.proofs.lemmas.List.Folds.{list_any_at}
use Rattle.std.proofs.lemmas.List.Kept.{AllPairs-filter}
use Rattle.xmp_values.specs.Characters.{IsCharText}
use Rattle.xmp_values.specs.declared.text.Name.{Name}
use Rattle.xml_grammar.specs.declared.elements.Attribute.{Attribute}
use Rattle.xml_grammar.specs.declared.elements.Element.{Element}
use Rattle.xml_grammar.specs.Sound.{IsSoundAttribute, IsSound}
use Rattle.xmp_tree.specs.declared.nested.Member.{Member}
use Rattle.xmp_tree.specs.declared.nested.Value.{out-Value}
use Rattle.xmp_tree.specs.declared.nested.Shape.{Simple, Uri, Struct}
use Rattle.xmp_tree.specs.Wf.{name_of, NamesDiffer, IsOwnSpace, IsWfMember, member_depth, AreWellFormed, IsQualifier, lang_name}
use Rattle.xmp_tree.proofs.Made.{name-member, formed_member, depth-member, formed_simple, depth-simple, other_qualifier}
use Rattle.xmp_tree.proofs.WfLemmas.{within_struct}
use Rattle.rdf_forms.specs.Words.{is_rdf, is_lang, is_member_name}
use Rattle.rdf_forms.specs.Parts.{attributes_of, property_attributes, attribute_value, has_attribute}
use Rattle.rdf_forms.specs.Values.{plain, attribute_member, lang_member, listed, lang_qualifiers, attributed, by_attributes}
use Rattle.rdf_soundness.proofs.Words.{IsOutside, own_outside, own_space, sound_named}
use Rattle.rdf_soundness.proofs.Lists.{Found, found, none_pass, filter_none}
use Rattle.rdf_soundness.proofs.Qualifiers.{IsFit, fit_value, quals-value, IsNoLang, IsTag, tagged, tagged_alone, AreTaglessQualifiers}

-- ---- the value of an attribute

-- a text, if there is one, is made of Chars
abbrev pub IsText : Option (List ℕ) → Type 0
IsText None = Unit {0}
IsText (Some text) = IsCharText text

abbrev Passes : (Name → Bool) → Attribute → Bool
Passes is_this a = is_this a.name

-- the value of the first attribute that passes, if there is one
abbrev pub Valued : (Name → Bool) → Element → Type 0
Valued is_this e =
    ((attribute_value is_this e ≡ None) × (has_attribute is_this e ≡ false))
    ⊎ ((text : List ℕ) × (attribute_value is_this e ≡ Some text) × (has_attribute is_this e ≡ true) × IsCharText text)

pub valued : (is_this : Name → Bool) (e : Element) → IsSound e → Valued is_this e
valued is_this e sound = by (found (Passes is_this) IsSoundAttribute (attributes_of e) sound.attributed.each)
  where
    by : Found (Passes is_this) IsSoundAttribute (attributes_of e) → Valued is_this e
    by (inl (none, lacks)) = inl (ap (λ o. option_map (λ (a : Attribute). a.value) o) none, lacks)
    by (inr (a, is, has, passes, one)) = inr (a.value, ap (λ o. option_map (λ (a : Attribute). a.value) o) is, has, one.chars)

pub text_of : (is_this : Name → Bool) (e : Element) → IsSound e → IsText (attribute_value is_this e)
text_of is_this e sound = by (valued is_this e sound)
  where
    by : Valued is_this e → IsText (attribute_value is_this e)
    by (inl (none, lacks)) = subst IsText (sym none) tt
    by (inr (text, is, has, chars)) = subst IsText (sym is) chars

pub no_value : (is_this : Name → Bool) (e : Element) → IsSound e → has_attribute is_this e ≡ false → attribute_value is_this e ≡ None
no_value is_this e sound h = by (valued is_this e sound)
  where
    by : Valued is_this e → attribute_value is_this e ≡ None
    by (inl (none, lacks)) = none
    by (inr (text, is, has, chars)) = absurd (both_ways (has_attribute is_this e) h has)

-- ---- `xml:lang`

pub lang_none : (e : Element) → IsSound e → has_attribute is_lang e ≡ false → lang_qualifiers e ≡ []
unfolding lang_qualifiers
lang_none e sound h = ap (λ o. listed (option_map lang_member o)) (no_value is_lang e sound h)

pub lang_tag : (room : ℕ) (e : Element) → IsSound e → (has_attribute is_lang e ≡ true → 1 ≤ room) → IsTag room (lang_qualifiers e)
unfolding lang_qualifiers
lang_tag room e sound some = by (valued is_lang e sound)
  where
    by : Valued is_lang e → IsTag room (lang_qualifiers e)
    by (inl (none, lacks)) = inl (ap (λ o. listed (option_map lang_member o)) none)
    by (inr (text, is, has, chars)) = inr (text, ap (λ o. listed (option_map lang_member o)) is, chars, some has)

-- ---- property attributes

pub record IsOwnAttribute (room : ℕ) (a : Attribute) : Type 0 where
  pub outside : IsOutside a.name
  pub sound : IsSoundAttribute a
  pub some : 1 ≤ room

pub formed_attribute : (a : Attribute) → IsSoundAttribute a → IsWfMember (attribute_member a)
formed_attribute a sound = formed_member a.name (plain a.value) (sound_named a.name sound.named) (formed_simple a.value sound.chars)

pub depth-attribute : (a : Attribute) → member_depth (attribute_member a) ≤ 1
depth-attribute a = omega (arith, depth-member a.name (plain a.value), depth-simple a.value)

pub own_attribute : (room : ℕ) (e : Element) → IsSound e → (has_attribute is_member_name e ≡ true → 1 ≤ room)
    → All (λ (a : Attribute). is_member_name a.name ≡ true → IsOwnAttribute room a) (attributes_of e)
own_attribute room e sound some k d lt is = record {
  outside = own_outside (get_or (attributes_of e) k d).name is;
  sound = sound.attributed.each k d lt;
  some = some (list_any_at (Passes is_member_name) (attributes_of e) k d lt is);
}

each_own : (room : ℕ) (e : Element) → IsSound e → (has_attribute is_member_name e ≡ true → 1 ≤ room) → All (IsOwnAttribute room) (property_attributes e)
each_own room e sound some k d lt =
    All-filter (Passes is_member_name) (λ (a : Attribute). is_member_name a.name ≡ true → IsOwnAttribute room a) (attributes_of e) (own_attribute room e sound some) k d lt
    (filter_passes (Passes is_member_name) (attributes_of e) k d lt)

-- members whose names are those of attributes differ
pub attributes_differ : (xs : List Attribute) → AllPairs (λ (a b : Attribute). a.name ≢ b.name) xs → NamesDiffer (map attribute_member xs)
attributes_differ xs apart i j d lt within same =
    let e : Attribute = record { name = record { space = []; local = [] }; value = [] } in
    let count = length-map xs attribute_member in
    let first = get_or-map attribute_member xs i e d (omega (arith, count)) in
    let second = get_or-map attribute_member xs j e d (omega (arith, count)) in
    let x : Attribute = get_or xs i e in
    let y : Attribute = get_or xs j e in
    apart i j e lt (omega (arith, count))
    (sym (name-member x.name (plain x.value)) ∙ sym (ap name_of first) ∙ same ∙ ap name_of second ∙ name-member y.name (plain y.value))

pub own_formed : (room : ℕ) (e : Element) → IsSound e → (has_attribute is_member_name e ≡ true → 1 ≤ room) → AreWellFormed room (map attribute_member (property_attributes e))
own_formed room e sound some =
    let own = each_own room e sound some in
    record {
      within = record {
        each = All-map IsWfMember attribute_member (property_attributes e)
            (All-weaker (IsOwnAttribute room) (λ a. IsWfMember (attribute_member a)) (λ a h. formed_attribute a h.sound) (property_attributes e) own);
        shallow = All-map (λ m. member_depth m ≤ room) attribute_member (property_attributes e)
            (All-weaker (IsOwnAttribute room) (λ a. member_depth (attribute_member a) ≤ room) (λ a h. omega (arith, depth-attribute a, h.some)) (property_attributes e) own);
      };
      fields = record {
        apart = attributes_differ (property_attributes e)
            (AllPairs-filter (λ (a b : Attribute). a.name ≢ b.name) (Passes is_member_name) (attributes_of e) sound.attributed.apart);
        own = All-map (λ m. IsOwnSpace (name_of m).space) attribute_member (property_attributes e)
            (All-weaker (IsOwnAttribute room) (λ a. IsOwnSpace (name_of (attribute_member a)).space)
            (λ a h. subst (λ (n : Name). IsOwnSpace n.space) (sym (name-member a.name (plain a.value))) (own_space a.name h.sound.named h.outside))
            (property_attributes e) own);
      };
    }

-- fields may stand as qualifiers too
pub own_no_lang : (m : Member) → IsOwnSpace (name_of m).space → IsNoLang m
unfolding lang_name
own_no_lang m own same = own.not_xml (ap (λ (n : Name). n.space) same)

pub fields_as_qualifiers : (room : ℕ) (ms : List Member) → AreWellFormed room ms → AreTaglessQualifiers room ms
fields_as_qualifiers room ms h =
    let none = All-weaker (λ m. IsOwnSpace (name_of m).space) IsNoLang own_no_lang ms h.fields.own in
    record {
      formed = record {
        within = h.within;
        quals = record {
          apart = h.fields.apart;
          each = All-weaker (λ m. IsOwnSpace (name_of m).space) IsQualifier other_qualifier ms h.fields.own;
          lang_first = λ i j d lt within. none j d within;
        };
      };
      none = none;
    }

-- ---- the value by attributes

attributed_fit : (room : ℕ) (lang ms : List Member) (text uri : Option (List ℕ)) → IsTag room lang → AreWellFormed room ms
    → IsText text → IsText uri → IsFit room (attributed lang ms text uri)
attributed_fit room lang ms (Some text) uri tag h t u =
    let others = fields_as_qualifiers room ms h in
    fit_value room (Simple text) (lang ++ ms) t (omega arith) (tagged room lang ms tag others.none others.formed)
attributed_fit room lang ms None (Some uri) tag h t u =
    let others = fields_as_qualifiers room ms h in
    fit_value room (Uri uri) (lang ++ ms) u (omega arith) (tagged room lang ms tag others.none others.formed)
attributed_fit room lang ms None None tag h t u =
    let shape = (within_struct ms room).1 h in
    fit_value room (Struct ms) lang shape.0 shape.1 (tagged_alone room lang tag)

pub attributes_fit : (room : ℕ) (e : Element) → IsSound e → (has_attribute is_lang e ≡ true → 1 ≤ room) → (has_attribute is_member_name e ≡ true → 1 ≤ room)
    → IsFit room (by_attributes e)
unfolding by_attributes
attributes_fit room e sound lang own =
    attributed_fit room (lang_qualifiers e) (map attribute_member (property_attributes e)) (attribute_value (is_rdf (codes "value")) e)
    (attribute_value (is_rdf (codes "resource")) e) (lang_tag room e sound lang) (own_formed room e sound own)
    (text_of (is_rdf (codes "value")) e sound) (text_of (is_rdf (codes "resource")) e sound)

none_own : (e : Element) → has_attribute is_member_name e ≡ false → property_attributes e ≡ []
none_own e h = filter_none (Passes is_member_name) (attributes_of e) (none_pass (Passes is_member_name) (attributes_of e) h)

bare_by : (lang : List Member) (xs : List Attribute) (uri : Option (List ℕ)) → (uri ≡ None) ⊎ (xs ≡ []) → (out-Value (attributed lang (map attribute_member xs) None uri)).quals ≡ lang
bare_by lang xs None h = quals-value (Struct (map attribute_member xs)) lang
bare_by lang xs (Some uri) (inl none) = absurd cc
bare_by lang xs (Some uri) (inr none) =
    quals-value (Uri uri) (lang ++ map attribute_member xs) ∙ ap (λ ys. lang ++ map attribute_member ys) none ∙ append-nil lang

-- without `rdf:value`, and without `rdf:resource` or property attributes, its one qualifier is `xml:lang`
pub attributes_bare : (e : Element) → IsSound e → has_attribute (is_rdf (codes "value")) e ≡ false
    → (has_attribute (is_rdf (codes "resource")) e ≡ false) ⊎ (has_attribute is_member_name e ≡ false) → (out-Value (by_attributes e)).quals ≡ lang_qualifiers e
unfolding by_attributes
attributes_bare e sound none one =
    ap (λ o. (out-Value (attributed (lang_qualifiers e) (map attribute_member (property_attributes e)) o (attribute_value (is_rdf (codes "resource")) e))).quals)
    (no_value (is_rdf (codes "value")) e sound none)
    ∙ bare_by (lang_qualifiers e) (property_attributes e) (attribute_value (is_rdf (codes "resource")) e)
    (⊎_elim (λ no_uri. inl (no_value (is_rdf (codes "resource")) e sound no_uri)) (λ no_own. inr (none_own e no_own)) one)
