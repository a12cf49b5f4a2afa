-- The members of a top that breaks no rule are well-formed, and no two members of a row of tops have one name.
use Rattle.std.proofs.Common.{◌≡◌, ◌≢◌, ℕ, ◌≤◌, ◌<◌, false, not, ⊎_elim, List, [], ◌∷◌, ◌++◌, length, map, get_or, refl, ap, sym, subst, ◌∙◌, append-nil, append_assoc, arith}
use Rattle.std.specs.Prelude.{All, codes}
use Rattle.std.specs.List.{flat_map, list_any}
use Rattle.std.proofs.lemmas.Bool.{or_parts, and_cases, both_ways, cond-false}
use Rattle.std.proofs.lemmas.List.{get_or-map, length-map, map-append, flat_map_more}
use Rattle.std.proofs.lemmas.List.Elements.{All-append, All-map, All-head, All-tail}
use Rattle.xmp_values.specs.declared.text.Name.{Name}
use Rattle.xml_grammar.specs.declared.elements.Element.{Element}
use Rattle.xml_grammar.specs.Sound.{IsSound}
use Rattle.xmp_tree.specs.declared.nested.Member.{Member}
use Rattle.xmp_tree.specs.Wf.{IsOwnSpace, IsWfMember, AreWellFormed}
use Rattle.xmp_tree.specs.Wf as tree
use Rattle.xmp_tree.proofs.Made.{name-member, formed_member, depth-member, formed_none}
use Rattle.xmp_tree.proofs.Changed.{AreParted, formed_append}
use Rattle.rdf_forms.specs.declared.roles.Role.{Role}
use Rattle.rdf_forms.specs.declared.roles.Role.TheVariants as roles
use Rattle.rdf_forms.specs.declared.roles.Holder.TheVariants as holders
use Rattle.rdf_forms.specs.Words.{same_name, in_rdf, in_xml}
use Rattle.rdf_forms.specs.Parts.{name_of, elements_of, property_attributes}
use Rattle.rdf_forms.specs.Visits.{Visit, member_depth, member_visits, property_visits, top_visits}
use Rattle.rdf_forms.specs.NameRules.{no_namespace, is_bare, is_bare_element, xml_name, is_xml, rdf_name, is_allowed_member, has_some_attribute}
use Rattle.rdf_forms.specs.FormRules.{is_value_element}
use Rattle.rdf_forms.specs.MemberRules.{has_again, has_common, member_names, attribute_names, twice}
use Rattle.rdf_forms.specs.Values.{attribute_member, element_member, value_within}
use Rattle.rdf_soundness.specs.Formed.{Formed}
use Rattle.rdf_soundness.proofs.Words.{IsOutside, own_space, sound_named, outside_not_rdf, same_name_is, names_apart}
use Rattle.rdf_soundness.proofs.Lists.{none_pass, pairs_from_map}
use Rattle.rdf_soundness.proofs.Unbroken.{IsUnbroken, IsFaultless, faultless_cons, faultless_append, faultless_each}
use Rattle.rdf_soundness.proofs.Attributes.{own_formed}
use Rattle.rdf_soundness.proofs.Elements.{sound_elements}
use Rattle.rdf_soundness.proofs.MemberNames.{names-elements, names-attributes}
use Rattle.rdf_soundness.proofs.Children.{first_unbroken}
use Rattle.rdf_soundness.proofs.Values.{formed_property}

abbrev pub top_members : ℕ → Element → List Member
top_members levels t = map attribute_member (property_attributes t) ++ map (element_member (value_within levels)) (elements_of t)

-- ---- a child element of a top

abbrev Property : Role
Property = roles.Property holders.Top

child_outside : (depth : ℕ) (c : Element) (first : List ℕ) (names : List Name) → IsUnbroken Property depth c first names → IsOutside (name_of c)
unfolding no_namespace is_bare_element xml_name rdf_name is_allowed_member
child_outside depth c first names h = record {
  some = (or_parts (is_bare_element Property c) (has_some_attribute (is_bare Property) c) h.spaced).0;
  not_rdf = ⊎_elim (λ is. is) (λ denied. absurd cc) (and_cases (in_rdf (name_of c)) (not (is_allowed_member holders.Top c)) h.not_rdf);
  not_xml = (or_parts (in_xml (name_of c)) (has_some_attribute (is_xml Property) c) h.not_xml).0;
}

-- a child element as a property of the tree
record IsTopMember (m : Member) : Type 0 where
  formed : IsWfMember m
  shallow : tree.member_depth m ≤ 24
  own : IsOwnSpace (tree.name_of m).space

-- ---- names

names-top : (levels : ℕ) (t : Element) → map tree.name_of (top_members levels t) ≡ member_names t
unfolding member_names
names-top levels t =
    map-append tree.name_of (map attribute_member (property_attributes t)) (map (element_member (value_within levels)) (elements_of t))
    ∙ ap (λ ns. ns ++ map tree.name_of (map (element_member (value_within levels)) (elements_of t))) (names-attributes (property_attributes t))
    ∙ ap (λ ns. attribute_names (property_attributes t) ++ ns) (names-elements (value_within levels) (elements_of t))

names-row : (levels : ℕ) (ts : List Element) → map tree.name_of (flat_map (top_members levels) ts) ≡ flat_map member_names ts
names-row levels [] = refl
names-row levels (t ∷ ts) =
    map-append tree.name_of (top_members levels t) (flat_map (top_members levels) ts)
    ∙ ap (λ ns. ns ++ map tree.name_of (flat_map (top_members levels) ts)) (names-top levels t)
    ∙ ap (λ ns. member_names t ++ ns) (names-row levels ts)

none_common : (ns those : List Name) → has_common ns those ≡ false → (i j : ℕ) (d : Name) → i < length those → j < length ns → get_or those i d ≢ get_or ns j d
none_common ns those h i j d lt within same =
    let row = none_pass (λ n. list_any (same_name n) those) ns h j d within in
    let one = none_pass (same_name (get_or ns j d)) those row i d lt in
    both_ways (same_name (get_or ns j d) (get_or those i d)) one ((same_name_is (get_or ns j d) (get_or those i d)).1 (sym same))

parted : (xs ys : List Member) → has_common (map tree.name_of ys) (map tree.name_of xs) ≡ false → AreParted xs ys
parted xs ys h i j d lt within same =
    let first = length-map xs tree.name_of in
    let second = length-map ys tree.name_of in
    none_common (map tree.name_of ys) (map tree.name_of xs) h i j (tree.name_of d) (omega (arith, first)) (omega (arith, second))
    (get_or-map tree.name_of xs i d (tree.name_of d) lt ∙ same ∙ sym (get_or-map tree.name_of ys j d (tree.name_of d) within))

module _ (levels : ℕ) (enough : 60 ≤ levels) where
  child_member : (c : Element) → IsSound c → IsFaultless (property_visits levels Property (member_depth 0 c) c) → IsTopMember (element_member (value_within levels) c)
  unfolding member_depth
  child_member c sound h =
      let outside = child_outside (member_depth 0 c) c [] [] (first_unbroken levels Property (member_depth 0 c) c (omega arith) h) in
      let at : member_depth 0 c ≡ 1 = cond-false (is_value_element c) 0 1 (outside_not_rdf (codes "value") (name_of c) outside) in
      let formed : Formed 1 c (value_within levels c) =
      formed_property levels 1 Property c refl sound (omega arith) (record { inner = omega arith; outer = λ other. omega arith })
      (subst (λ (d : ℕ). IsFaultless (property_visits levels Property d c)) at h) in
      let shallow = formed.shallow in
      record {
        formed = formed_member (name_of c) (value_within levels c) (sound_named (name_of c) sound.named) formed.formed;
        shallow = omega (arith, shallow, depth-member (name_of c) (value_within levels c));
        own = subst (λ (n : Name). IsOwnSpace n.space) (sym (name-member (name_of c) (value_within levels c))) (own_space (name_of c) sound.named outside);
      }

  each_child : (t : Element) → IsSound t → IsFaultless (member_visits (property_visits levels) holders.Top 0 (elements_of t))
      → All (λ c. IsTopMember (element_member (value_within levels) c)) (elements_of t)
  each_child t sound h k d lt =
      child_member (get_or (elements_of t) k d) (sound_elements t sound k d lt)
      (faultless_each (λ c. property_visits levels Property (member_depth 0 c) c) (elements_of t) h k d lt)

  -- ---- a top

  top_formed : (t : Element) → IsSound t → has_again (member_names t) ≡ false
      → IsFaultless (member_visits (property_visits levels) holders.Top 0 (elements_of t)) → AreWellFormed 24 (top_members levels t)
  top_formed t sound once h =
      let attributes : List Member = map attribute_member (property_attributes t) in
      let elements : List Member = map (element_member (value_within levels)) (elements_of t) in
      let front = own_formed 24 t sound (λ has. omega arith) in
      let back = All-map IsTopMember (element_member (value_within levels)) (elements_of t) (each_child t sound h) in
      record {
        within = record {
          each = All-append IsWfMember attributes elements front.within.each (λ k d lt. (back k d lt).formed);
          shallow = All-append (λ m. tree.member_depth m ≤ 24) attributes elements front.within.shallow (λ k d lt. (back k d lt).shallow);
        };
        fields = record {
          apart = pairs_from_map (λ m n. m ≢ n) tree.name_of (top_members levels t)
              (names_apart (map tree.name_of (top_members levels t)) (ap has_again (names-top levels t) ∙ once));
          own = All-append (λ m. IsOwnSpace (tree.name_of m).space) attributes elements front.fields.own (λ k d lt. (back k d lt).own);
        };
      }

  -- ---- a row of tops

  abbrev members_in : List Element → List Member
  members_in ts = flat_map (top_members levels) ts

  members_after : (earlier : List Element) (t : Element) → members_in earlier ++ top_members levels t ≡ members_in (earlier ++ t ∷ [])
  members_after earlier t = flat_map_more (top_members levels) [] earlier t

  -- one top more
  after : (earlier : List Element) (t : Element) → IsSound t → AreWellFormed 24 (members_in earlier) → twice roles.Top t (flat_map member_names earlier) ≡ false
      → IsFaultless (member_visits (property_visits levels) holders.Top 0 (elements_of t)) → AreWellFormed 24 (members_in (earlier ++ t ∷ []))
  unfolding twice
  after earlier t sound old once inside =
      let parts = or_parts (has_common (member_names t) (flat_map member_names earlier)) (has_again (member_names t)) once in
      let apart : has_common (map tree.name_of (top_members levels t)) (map tree.name_of (members_in earlier)) ≡ false =
      ap (λ ns. has_common ns (map tree.name_of (members_in earlier))) (names-top levels t) ∙ ap (has_common (member_names t)) (names-row levels earlier) ∙ parts.0 in
      subst (AreWellFormed 24) (members_after earlier t)
      (formed_append 24 (members_in earlier) (top_members levels t) old (top_formed t sound parts.1 inside)
      (parted (members_in earlier) (top_members levels t) apart))

  row_formed : (earlier ts : List Element) → All IsSound ts → AreWellFormed 24 (members_in earlier) → IsFaultless (top_visits levels earlier ts)
      → AreWellFormed 24 (members_in earlier ++ members_in ts)
  row_formed earlier [] sound old h = subst (AreWellFormed 24) (sym (append-nil (members_in earlier))) old
  row_formed earlier (t ∷ ts) sound old h =
      let inside : List Visit = member_visits (property_visits levels) holders.Top 0 (elements_of t) in
      let rest : List Visit = top_visits levels (earlier ++ t ∷ []) ts in
      let front = faultless_cons (record { role = roles.Top; depth = 0; element = t; earlier = earlier }) (inside ++ rest) h in
      let back = faultless_append inside rest front.1 in
      let more = after earlier t (All-head IsSound t ts sound) old front.0.once back.0 in
      subst (AreWellFormed 24)
      (ap (λ ms. ms ++ members_in ts) (sym (members_after earlier t)) ∙ append_assoc (members_in earlier) (top_members levels t) (members_in ts))
      (row_formed (earlier ++ t ∷ []) ts (All-tail IsSound t ts sound) more back.1)

  pub tops_formed : (ts : List Element) → All IsSound ts → IsFaultless (top_visits levels [] ts) → AreWellFormed 24 (flat_map (top_members levels) ts)
  tops_formed ts sound h = row_formed [] ts sound (formed_none 24) h
