-- Attributes and child elements as members.
use Rattle.std.proofs.Common.{◌≡◌, ℕ, ◌≤◌, ◌+◌, ◌-◌, Bool, true, false, not, ◌&&◌, ◌||◌, ◌⊎◌, inl, inr, ⊎_elim, List, [], ap, sym, subst, ◌∙◌, arith}
use Rattle.std.specs.Prelude.{codes, ◌==◌, nat_lt}
use Rattle.std.proofs.lemmas.Bool.{or_parts, and_parts, and_cases, or_cases, both_ways, not-false, ltb-false, eqb-false, cond-true, cond-false}
use Rattle.xmp_values.specs.declared.text.Name.{Name}
use Rattle.xml_grammar.specs.declared.elements.Attribute.{Attribute}
use Rattle.xml_grammar.specs.declared.elements.Element.{Element}
use Rattle.xml_grammar.specs.Sound.{IsSoundAttribute, IsSound}
use Rattle.xmp_tree.specs.declared.nested.Member.{Member}
use Rattle.xmp_tree.specs.declared.nested.Value.{Value, out-Value}
use Rattle.xmp_tree.specs.declared.nested.Shape.{Simple}
use Rattle.xmp_tree.specs.Wf.{IsOwnSpace, value_depth, IsPlainUri}
use Rattle.xmp_tree.specs.Wf as tree
use Rattle.xmp_tree.proofs.Made.{name-member, value-member, formed_member, depth-member, depth-simple}
use Rattle.rdf_forms.specs.declared.roles.Role.{Role}
use Rattle.rdf_forms.specs.declared.roles.Role.TheVariants as roles
use Rattle.rdf_forms.specs.declared.roles.Holder.TheVariants as holders
use Rattle.rdf_forms.specs.Words.{is_rdf, in_rdf, in_xml, in_none, is_lang, is_member_name}
use Rattle.rdf_forms.specs.Parts.{name_of, has_attribute}
use Rattle.rdf_forms.specs.Visits.{member_depth}
use Rattle.rdf_forms.specs.NameRules.{no_namespace, is_bare, is_bare_element, xml_name, is_xml, rdf_name, is_allowed_member, is_type_element, has_some_attribute}
use Rattle.rdf_forms.specs.FormRules.{is_value_element}
use Rattle.rdf_forms.specs.MemberRules.{too_deep, tree_deep, most_depth}
use Rattle.rdf_forms.specs.Values.{plain, attribute_member, lang_qualifiers, element_member, is_value_member, is_node_member}
use Rattle.rdf_soundness.specs.Formed.{Formed}
use Rattle.rdf_soundness.proofs.Words.{IsOutside, own_space, sound_named, outside_not_rdf, type_is}
use Rattle.rdf_soundness.proofs.Unbroken.{IsUnbroken}
use Rattle.rdf_soundness.proofs.Qualifiers.{quals-value, IsTag}
use Rattle.rdf_soundness.proofs.Attributes.{lang_tag, IsOwnAttribute, formed_attribute, depth-attribute}
use Rattle.rdf_soundness.proofs.Composed.{IsOther, IsHeld, IsMember}

-- ---- depth

-- where an element isn't too deep, there is room for its `xml:lang` and its property attributes
pub record IsRoomy (depth : ℕ) (e : Element) : Type 0 where
  pub reached : depth ≤ 24
  pub lang : has_attribute is_lang e ≡ true → 1 ≤ 24 - depth
  pub own : has_attribute is_member_name e ≡ true → 1 ≤ 24 - depth

pub roomy : (depth : ℕ) (e : Element) → too_deep depth e ≡ false → IsRoomy depth e
roomy depth e h =
    let parts = or_parts (nat_lt most_depth depth) (depth == most_depth && (has_attribute is_lang e || has_attribute is_member_name e)) h in
    let reached : depth ≤ 24 = ltb-false most_depth depth parts.0 in
    record {
      reached = reached;
      lang = λ has. by reached (and_cases (depth == most_depth) (has_attribute is_lang e || has_attribute is_member_name e) parts.1)
          (λ none. both_ways (has_attribute is_lang e) (or_parts (has_attribute is_lang e) (has_attribute is_member_name e) none).0 has);
      own = λ has. by reached (and_cases (depth == most_depth) (has_attribute is_lang e || has_attribute is_member_name e) parts.1)
          (λ none. both_ways (has_attribute is_member_name e) (or_parts (has_attribute is_lang e) (has_attribute is_member_name e) none).1 has);
    }
  where
    by : depth ≤ 24 → ((depth == most_depth) ≡ false) ⊎ ((has_attribute is_lang e || has_attribute is_member_name e) ≡ false)
        → ((has_attribute is_lang e || has_attribute is_member_name e) ≡ false → ⊥) → 1 ≤ 24 - depth
    by reached (inl other) some = let differ = eqb-false depth 24 other in omega (arith, differ)
    by reached (inr none) some = absurd (some none)

-- ---- attributes of a node

pub value-attribute : (a : Attribute) → is_value_member (attribute_member a) ≡ is_rdf (codes "value") a.name
unfolding is_value_member
value-attribute a = ap (is_rdf (codes "value")) (name-member a.name (plain a.value))

module _ (room : ℕ) (with_value : Bool) (lang : List Member) (a : Attribute) (sound : IsSoundAttribute a) where
  own_member : IsOwnAttribute room a → IsMember room with_value lang (attribute_member a)
  own_member h =
      let other : is_value_member (attribute_member a) ≡ false = value-attribute a ∙ outside_not_rdf (codes "value") a.name h.outside in
      record {
        formed = formed_attribute a sound;
        shallow = λ off. omega (arith, depth-attribute a, h.some);
        other = λ off. inl (subst (λ (n : Name). IsOwnSpace n.space) (sym (name-member a.name (plain a.value))) (own_space a.name sound.named h.outside));
        held = λ is. absurd (both_ways (is_value_member (attribute_member a)) other is);
      }

  value_attribute : is_rdf (codes "value") a.name ≡ true → IsMember room with_value lang (attribute_member a)
  value_attribute is =
      let valued : is_value_member (attribute_member a) ≡ true = value-attribute a ∙ is in
      let same : tree.value_of (attribute_member a) ≡ plain a.value = value-member a.name (plain a.value) in
      let bare : (out-Value (tree.value_of (attribute_member a))).quals ≡ [] = ap (λ v. (out-Value v).quals) same ∙ quals-value (Simple a.value) [] in
      record {
        formed = formed_attribute a sound;
        shallow = λ off. absurd (both_ways (is_value_member (attribute_member a)) off valued);
        other = λ off. absurd (both_ways (is_value_member (attribute_member a)) off valued);
        held = λ on. record {
          shallow = subst (λ v. value_depth v ≤ room + 1) (sym same) (omega (arith, depth-simple a.value));
          tagged = inl bare;
          once = inr bare;
        };
      }

  pub node_attribute : (is_member_name a.name ≡ true → IsOwnAttribute room a) → is_node_member a ≡ true → IsMember room with_value lang (attribute_member a)
  node_attribute own h = ⊎_elim (λ is. own_member (own is)) value_attribute (or_cases (is_member_name a.name) (is_rdf (codes "value") a.name) h)

-- ---- child elements

pub value-element : (read : Element → Value) (c : Element) → is_value_member (element_member read c) ≡ is_value_element c
unfolding is_value_member
value-element read c = ap (is_rdf (codes "value")) (name-member (name_of c) (read c))

-- a child element that is a member of a value
pub record IsChild (depth : ℕ) (with_value : Bool) (read : Element → Value) (c : Element) : Type 0 where
  pub sound : IsSound c
  pub unbroken : IsUnbroken (roles.Property (holders.Value with_value)) (member_depth depth c) c [] []
  pub formed : Formed (member_depth depth c) c (read c)

-- what the rules leave of the name of a member
abbrev NamedAs : Bool → Element → Type 0
NamedAs with_value c =
    IsOutside (name_of c) ⊎ ((is_value_element c ≡ true) ⊎ ((is_rdf (codes "type") (name_of c) ≡ true) × (with_value ≡ true) × (is_type_element c ≡ true)))

allowed_as : (with_value : Bool) (c : Element) → is_allowed_member (holders.Value with_value) c ≡ true
    → (is_value_element c ≡ true) ⊎ ((is_rdf (codes "type") (name_of c) ≡ true) × (with_value ≡ true) × (is_type_element c ≡ true))
unfolding is_allowed_member
allowed_as with_value c h =
    ⊎_elim inl
    (λ both. let parts = and_parts (is_rdf (codes "type") (name_of c) && with_value) (is_type_element c) both in
    let front = and_parts (is_rdf (codes "type") (name_of c)) with_value parts.0 in
    inr (front.0, front.1, parts.1))
    (or_cases (is_value_element c) (is_rdf (codes "type") (name_of c) && with_value && is_type_element c) h)

module _ (with_value : Bool) (depth : ℕ) (c : Element) (first : List ℕ) (names : List Name)
    (h : IsUnbroken (roles.Property (holders.Value with_value)) depth c first names) where
  abbrev role : Role
  role = roles.Property (holders.Value with_value)

  spaced : in_none (name_of c) ≡ false
  unfolding no_namespace is_bare_element
  spaced = (or_parts (is_bare_element role c) (has_some_attribute (is_bare role) c) h.spaced).0

  not_xml : in_xml (name_of c) ≡ false
  unfolding xml_name
  not_xml = (or_parts (in_xml (name_of c)) (has_some_attribute (is_xml role) c) h.not_xml).0

  pub named_as : NamedAs with_value c
  unfolding rdf_name
  named_as =
      ⊎_elim (λ none. inl (record { some = spaced; not_rdf = none; not_xml = not_xml }))
      (λ denied. inr (allowed_as with_value c (not-false (is_allowed_member (holders.Value with_value) c) denied)))
      (and_cases (in_rdf (name_of c)) (not (is_allowed_member (holders.Value with_value) c)) h.not_rdf)

  pub child_roomy : IsRoomy depth c
  unfolding tree_deep
  child_roomy = roomy depth c h.shallow

module _ (depth : ℕ) (reached : depth ≤ 24) (with_value : Bool) (read : Element → Value) (lang : List Member) (c : Element)
    (h : IsChild depth with_value read c) where
  abbrev m : Member
  m = element_member read c

  same_value : tree.value_of m ≡ read c
  same_value = value-member (name_of c) (read c)

  same_name : tree.name_of m ≡ name_of c
  same_name = name-member (name_of c) (read c)

  child_shallow : is_value_element c ≡ false → tree.member_depth m ≤ 24 - depth
  unfolding member_depth
  child_shallow off =
      let at : member_depth depth c ≡ depth + 1 = cond-false (is_value_element c) depth (depth + 1) off in
      let shallow : value_depth (read c) ≤ 25 - (depth + 1) = subst (λ (d : ℕ). value_depth (read c) ≤ 25 - d) at h.formed.shallow in
      omega (arith, shallow, depth-member (name_of c) (read c))

  child_other : is_value_element c ≡ false → IsOther with_value m
  child_other off = by (named_as with_value (member_depth depth c) c [] [] h.unbroken)
    where
      by : NamedAs with_value c → IsOther with_value m
      by (inl outside) = inl (subst (λ (n : Name). IsOwnSpace n.space) (sym same_name) (own_space (name_of c) h.sound.named outside))
      by (inr (inl is)) = absurd (both_ways (is_value_element c) off is)
      by (inr (inr (is, with, kind))) =
          inr (same_name ∙ (type_is (name_of c)).0 is, with, subst IsPlainUri (sym same_value) (h.formed.typed kind))

  child_held : is_value_element c ≡ true → (lang ≡ []) ⊎ (lang_qualifiers c ≡ []) → IsHeld (24 - depth) lang (tree.value_of m)
  unfolding member_depth
  child_held is once =
      let at : member_depth depth c ≡ depth = cond-true (is_value_element c) depth (depth + 1) is in
      let shallow : value_depth (read c) ≤ 25 - depth = subst (λ (d : ℕ). value_depth (read c) ≤ 25 - d) at h.formed.shallow in
      let room = subst (λ (d : ℕ). IsRoomy d c) at (child_roomy with_value (member_depth depth c) c [] [] h.unbroken) in
      let quals : (out-Value (tree.value_of m)).quals ≡ lang_qualifiers c = ap (λ v. (out-Value v).quals) same_value ∙ h.formed.bare is in
      record {
        shallow = subst (λ v. value_depth v ≤ 24 - depth + 1) (sym same_value) (omega (arith, shallow, reached));
        tagged = subst (IsTag (24 - depth)) (sym quals) (lang_tag (24 - depth) c h.sound room.lang);
        once = ⊎_elim inl (λ none. inr (quals ∙ none)) once;
      }

  pub child_member : (is_value_element c ≡ true → (lang ≡ []) ⊎ (lang_qualifiers c ≡ [])) → IsMember (24 - depth) with_value lang m
  child_member once = record {
    formed = formed_member (name_of c) (read c) (sound_named (name_of c) h.sound.named) h.formed.formed;
    shallow = λ off. child_shallow (sym (value-element read c) ∙ off);
    other = λ off. child_other (sym (value-element read c) ∙ off);
    held = λ is. let on : is_value_element c ≡ true = sym (value-element read c) ∙ is in child_held on (once on);
  }
