-- A node's type, and the members of a node that breaks no rule.
use Rattle.std.proofs.Common.{◌≡◌, ℕ, ◌≤◌, ◌-◌, Bool, true, false, not, cond, ◌&&◌, ◌||◌, ◌⊎◌, inl, inr, ⊎_elim, List, [], ◌∷◌, ◌++◌, get_or, refl, ap, sym, ◌∙◌, arith}
use Rattle.std.specs.Prelude.{All, codes, ◌==◌, filter}
use Rattle.std.proofs.lemmas.Bool.{or_parts, or_cases, and_cases, both_ways, eqb-false}
use Rattle.std.proofs.lemmas.List.Elements.{All-append, All-map, All-filter, filter_passes}
use Rattle.xmp_values.specs.Characters.{IsCharText}
use Rattle.xmp_values.specs.declared.text.Name.{Name}
use Rattle.xml_grammar.specs.declared.elements.Attribute.{Attribute}
use Rattle.xml_grammar.specs.declared.elements.Element.{Element}
use Rattle.xml_grammar.specs.Sound.{IsSound, IsSoundAttribute}
use Rattle.xmp_tree.specs.declared.nested.Member.{Member}
use Rattle.xmp_tree.specs.declared.nested.Value.{Value}
use Rattle.xmp_tree.proofs.Made.{name-member}
use Rattle.rdf_forms.specs.declared.roles.Role.TheVariants as roles
use Rattle.rdf_forms.specs.Words.{rdf_space, is_rdf, is_member_name}
use Rattle.rdf_forms.specs.Parts.{name_of, attributes_of, elements_of, has_attribute, has_element}
use Rattle.rdf_forms.specs.Visits.{is_typed, has_value_member}
use Rattle.rdf_forms.specs.MemberRules.{most_depth, tree_deep, twice, has_again, other_names, member_names}
use Rattle.rdf_forms.specs.Values.{plain, attribute_member, element_member, is_node_member, node_members, type_of}
use Rattle.rdf_soundness.proofs.Words.{own_outside, outside_not_rdf, type_is, rdf_is}
use Rattle.rdf_soundness.proofs.Lists.{none_pass}
use Rattle.rdf_soundness.proofs.Unbroken.{IsUnbroken}
use Rattle.rdf_soundness.proofs.NameTexts.{uri_text}
use Rattle.rdf_soundness.proofs.Qualifiers.{IsTyping, IsNoType, type_member}
use Rattle.rdf_soundness.proofs.Attributes.{IsOwnAttribute, own_attribute}
use Rattle.rdf_soundness.proofs.Composed.{IsMember, AreMembers}
use Rattle.rdf_soundness.proofs.Members.{node_attribute}
use Rattle.rdf_soundness.proofs.MemberNames.{element_members, members_of_node, node_apart, node_valued}

-- ---- the type

untyped_by : (n : Name) (b : Bool) → not b ≡ false → cond b [] (type_member (n.space ++ n.local) ∷ []) ≡ []
untyped_by n true h = refl
untyped_by n false h = absurd cc

pub untyped : (n : Element) → is_typed n ≡ false → type_of (name_of n) ≡ []
unfolding is_typed type_of
untyped n h = untyped_by (name_of n) (is_rdf (codes "Description") (name_of n)) h

typing_by : (room : ℕ) (text : List ℕ) (b : Bool) → IsCharText text → (not b ≡ true → 1 ≤ room) → IsTyping room (cond b [] (type_member text ∷ []))
typing_by room text true chars some = inl refl
typing_by room text false chars some = inr (text, refl, chars, some refl)

pub typing : (room : ℕ) (n : Element) → IsSound n → (is_typed n ≡ true → 1 ≤ room) → IsTyping room (type_of (name_of n))
unfolding is_typed type_of
typing room n sound some =
    typing_by room ((name_of n).space ++ (name_of n).local) (is_rdf (codes "Description") (name_of n)) (uri_text (name_of n) sound.named) some

-- ---- what the rules leave of a node

pub record IsUnbrokenNode (depth : ℕ) (n : Element) : Type 0 where
  pub own : has_attribute is_member_name n ≡ true → 1 ≤ 24 - depth
  pub typed : is_typed n ≡ true → 1 ≤ 24 - depth
  pub apart : has_again (other_names (member_names n)) ≡ false
  pub type_once : (is_typed n ≡ false) ⊎ (has_element (is_rdf (codes "type")) n ≡ false)

pub node_facts : (depth : ℕ) (n : Element) (first : List ℕ) (names : List Name) → depth ≤ 24 → IsUnbroken roles.Node depth n first names → IsUnbrokenNode depth n
unfolding tree_deep twice
node_facts depth n first names reached h =
    let once = or_parts (has_again (other_names (member_names n))) (is_typed n && has_element (is_rdf (codes "type")) n) h.once in
    let deep = and_cases (depth == most_depth) (has_attribute is_member_name n || is_typed n) h.shallow in
    record {
      own = λ has. by deep (λ none. both_ways (has_attribute is_member_name n) (or_parts (has_attribute is_member_name n) (is_typed n) none).0 has);
      typed = λ has. by deep (λ none. both_ways (is_typed n) (or_parts (has_attribute is_member_name n) (is_typed n) none).1 has);
      apart = once.0;
      type_once = and_cases (is_typed n) (has_element (is_rdf (codes "type")) n) once.1;
    }
  where
    by : ((depth == most_depth) ≡ false) ⊎ ((has_attribute is_member_name n || is_typed n) ≡ false) → ((has_attribute is_member_name n || is_typed n) ≡ false → ⊥) → 1 ≤ 24 - depth
    by (inl other) some = let differ = eqb-false depth 24 other in omega (arith, differ, reached)
    by (inr none) some = absurd (some none)

-- ---- `rdf:type` among its members

value_not_type : (n : Name) → is_rdf (codes "value") n ≡ true → is_rdf (codes "type") n ≡ false
unfolding is_rdf rdf_space
value_not_type n valued = ap (is_rdf (codes "type")) (rdf_is (codes "value") n valued)

not_type_attribute : (a : Attribute) → is_node_member a ≡ true → IsNoType (attribute_member a)
not_type_attribute a h same =
    let is : is_rdf (codes "type") a.name ≡ true = (type_is a.name).1 (sym (name-member a.name (plain a.value)) ∙ same) in
    ⊎_elim
    (λ own. both_ways (is_rdf (codes "type") a.name) (outside_not_rdf (codes "type") a.name (own_outside a.name own)) is)
    (λ valued. both_ways (is_rdf (codes "type") a.name) (value_not_type a.name valued) is)
    (or_cases (is_member_name a.name) (is_rdf (codes "value") a.name) h)

pub no_type : (read : Element → Value) (n : Element) → has_element (is_rdf (codes "type")) n ≡ false → All IsNoType (members_of_node read n)
unfolding node_members
no_type read n h =
    All-append IsNoType (node_members n) (element_members read n)
    (All-map IsNoType attribute_member (filter is_node_member (attributes_of n))
    (λ k d lt. not_type_attribute (get_or (filter is_node_member (attributes_of n)) k d) (filter_passes is_node_member (attributes_of n) k d lt)))
    (All-map IsNoType (element_member read) (elements_of n) (λ k d lt same.
    let c : Element = get_or (elements_of n) k d in
    both_ways (is_rdf (codes "type") (name_of c)) (none_pass (λ c. is_rdf (codes "type") (name_of c)) (elements_of n) h k d lt)
    ((type_is (name_of c)).1 (sym (name-member (name_of c) (read c)) ∙ same))))

-- ---- the members of a node

attributes_are_members : (room : ℕ) (with_value : Bool) (lang : List Member) (n : Element) → IsSound n → (has_attribute is_member_name n ≡ true → 1 ≤ room)
    → All (IsMember room with_value lang) (node_members n)
unfolding node_members
attributes_are_members room with_value lang n sound some =
    All-map (IsMember room with_value lang) attribute_member (filter is_node_member (attributes_of n)) (λ k d lt.
    let a : Attribute = get_or (filter is_node_member (attributes_of n)) k d in
    node_attribute room with_value lang a
    (All-filter is_node_member IsSoundAttribute (attributes_of n) sound.attributed.each k d lt)
    (All-filter is_node_member (λ (a : Attribute). is_member_name a.name ≡ true → IsOwnAttribute room a) (attributes_of n) (own_attribute room n sound some) k d lt)
    (filter_passes is_node_member (attributes_of n) k d lt))

pub node_are_members : (depth : ℕ) (lang : List Member) (read : Element → Value) (n : Element) → IsSound n → IsUnbrokenNode depth n
    → All (IsMember (24 - depth) (has_value_member n) lang) (element_members read n)
    → AreMembers (24 - depth) (has_value_member n) lang (type_of (name_of n)) (members_of_node read n)
node_are_members depth lang read n sound h elements = record {
  each = All-append (IsMember (24 - depth) (has_value_member n) lang) (node_members n) (element_members read n)
      (attributes_are_members (24 - depth) (has_value_member n) lang n sound h.own) elements;
  valued = node_valued read n;
  apart = node_apart read n h.apart;
  type_once = ⊎_elim (λ off. inl (untyped n off)) (λ none. inr (no_type read n none)) h.type_once;
}
