-- The value of a property or item that breaks no rule is well-formed, by induction on the levels of elements in it.
use Rattle.std.proofs.Common.{◌≡◌, ℕ, zero, suc, ◌≤◌, ◌+◌, ◌-◌, Bool, true, false, ◌&&◌, ◌||◌, inl, inr, ⊎_elim, List, [], map, length, refl, arith}
use Rattle.std.specs.Prelude.{codes, nat_le}
use Rattle.std.proofs.lemmas.Bool.{or_parts, and_cases, and_left, and_right, both_ways}
use Rattle.std.proofs.lemmas.List.Elements.{All-map, All-weaker}
use Rattle.xml_grammar.specs.declared.elements.Element.{Element}
use Rattle.xml_grammar.specs.Sound.{IsSound}
use Rattle.xmp_tree.specs.declared.nested.Member.{Member}
use Rattle.xmp_tree.specs.declared.nested.Value.{Value, out-Value}
use Rattle.xmp_tree.specs.declared.nested.Shape.{Simple, Array}
use Rattle.xmp_tree.specs.Wf.{IsWfValue, value_depth}
use Rattle.xmp_tree.proofs.WfLemmas.{within_array}
use Rattle.rdf_forms.specs.declared.roles.Role.TheVariants as roles
use Rattle.rdf_forms.specs.Words.{is_rdf, is_lang, is_member_name}
use Rattle.rdf_forms.specs.Parts.{name_of, elements_of, elements_named, own_text, has_attribute, has_element}
use Rattle.rdf_forms.specs.Forms.{Form, ByMembers, ByContainer, ByNode, ByAttributes, ByText, NoForm, form_of}
use Rattle.rdf_forms.specs.Visits.{visit, has_value_member, is_typed, members_holder, node_holder, item_visits, member_visits, form_visits, property_visits}
use Rattle.rdf_forms.specs.FormRules.{is_value_element, has_two_values, has_value_again, has_qualified_uri}
use Rattle.rdf_forms.specs.MemberRules.{has_inner_value, repeats_member, has_lang_value, has_again, other_names}
use Rattle.rdf_forms.specs.Values.{lang_qualifiers, kind_of, type_of, formed, value_within}
use Rattle.rdf_soundness.specs.Formed.{Enough, Formed, FormedProperties}
use Rattle.rdf_soundness.proofs.Unbroken.{IsFaultless, faultless_cons}
use Rattle.rdf_soundness.proofs.Elements.{sound_elements, sound_text}
use Rattle.rdf_soundness.proofs.Qualifiers.{IsFit, fit_value, quals-value, IsTag, tagged_alone}
use Rattle.rdf_soundness.proofs.Attributes.{lang_tag, attributes_fit, attributes_bare}
use Rattle.rdf_soundness.proofs.Composed.{AreMembers, members_fit, members_bare}
use Rattle.rdf_soundness.proofs.MemberNames.{element_members, members_of_node, elements_apart, elements_valued}
use Rattle.rdf_soundness.proofs.FormFacts.{IsUnbrokenForm, form_facts, IsSoundForm, form_sound}
use Rattle.rdf_soundness.proofs.TypeElements.{type_uri}
use Rattle.rdf_soundness.proofs.Nodes.{untyped, typing, node_facts, node_are_members}
use Rattle.rdf_soundness.proofs.Children.{FormedAt, children_are_members, items_formed}

-- a value that fits at its depth, and has `xml:lang` as its one qualifier where the element is `rdf:value`
record IsAnswer (depth : ℕ) (e : Element) (v : Value) : Type 0 where
  fit : IsFit (24 - depth) v
  bare : is_value_element e ≡ true → (out-Value v).quals ≡ lang_qualifiers e

module _ (levels : ℕ) (law : FormedAt levels) (depth : ℕ) (e : Element) (sound : IsSound e) (enough : Enough (suc levels) depth e)
    (facts : IsUnbrokenForm depth e) where
  abbrev read : Element → Value
  read = value_within levels

  tag : IsTag (24 - depth) (lang_qualifiers e)
  tag = lang_tag (24 - depth) e sound facts.room.lang

  -- what TwiceValue leaves of an element `rdf:value`
  no_inner : (b : Bool) → (is_value_element e && b) ≡ false → is_value_element e ≡ true → b ≡ false
  no_inner b h is = ⊎_elim (λ off. absurd (both_ways (is_value_element e) off is)) (λ none. none) (and_cases (is_value_element e) b h)

  from_members : has_inner_value ByMembers e ≡ false → repeats_member ByMembers e ≡ false
      → IsFaultless (form_visits (property_visits levels) depth e ByMembers) → IsAnswer depth e (formed read e ByMembers)
  unfolding members_holder
  from_members inner once h =
      let with_value : Bool = has_element (is_rdf (codes "value")) e in
      let held = (or_parts (nat_le 2 (length (elements_named (is_rdf (codes "value")) e))) (is_value_element e && with_value) inner).1 in
      let parts = or_parts (has_again (other_names (map name_of (elements_of e)))) (has_attribute is_lang e && has_lang_value e) once in
      let members : AreMembers (24 - depth) with_value (lang_qualifiers e) [] (element_members read e) = record {
        each = children_are_members levels law depth e facts.room.reached enough with_value e sound sound held parts.1 h;
        valued = elements_valued read e;
        apart = elements_apart read e parts.0;
        type_once = inl refl;
      } in
      record {
        fit = members_fit (24 - depth) with_value (lang_qualifiers e) [] (element_members read e) tag (inl refl) members;
        bare = λ is. members_bare (24 - depth) with_value (lang_qualifiers e) [] (element_members read e) tag (inl refl) members (no_inner with_value held is) refl;
      }

  from_node : (n : Element) → IsSound n → has_inner_value (ByNode n) e ≡ false → repeats_member (ByNode n) e ≡ false
      → IsFaultless (form_visits (property_visits levels) depth e (ByNode n)) → IsAnswer depth e (formed read e (ByNode n))
  unfolding node_holder has_value_member
  from_node n sound_n inner once h =
      let with_value : Bool = has_value_member n in
      let types : List Member = type_of (name_of n) in
      let visited = faultless_cons (visit roles.Node depth n) (member_visits (property_visits levels) (node_holder n) depth (elements_of n)) h in
      let node = node_facts depth n [] [] facts.room.reached visited.0 in
      let typings = typing (24 - depth) n sound_n node.typed in
      let elements = children_are_members levels law depth e facts.room.reached enough with_value n sound sound_n (not_held n inner) once visited.1 in
      let members = node_are_members depth (lang_qualifiers e) read n sound_n node elements in
      record {
        fit = members_fit (24 - depth) with_value (lang_qualifiers e) types (members_of_node read n) tag typings members;
        bare = λ is. let none = or_parts with_value (is_typed n) (no_inner (with_value || is_typed n) inner is) in
            members_bare (24 - depth) with_value (lang_qualifiers e) types (members_of_node read n) tag typings members none.0 (untyped n none.1);
      }
    where
      not_held : (n : Element) → (is_value_element e && (has_value_member n || is_typed n)) ≡ false → (is_value_element e && has_element (is_rdf (codes "value")) n) ≡ false
      not_held n inner = ⊎_elim
          (λ off. and_left (is_value_element e) (has_element (is_rdf (codes "value")) n) off)
          (λ none. and_right (is_value_element e) (has_element (is_rdf (codes "value")) n)
          (or_parts (has_attribute (is_rdf (codes "value")) n) (has_element (is_rdf (codes "value")) n) (or_parts (has_value_member n) (is_typed n) none).0).1)
          (and_cases (is_value_element e) (has_value_member n || is_typed n) inner)

  from_container : (c : Element) → IsSound c → IsFaultless (form_visits (property_visits levels) depth e (ByContainer c)) → IsAnswer depth e (formed read e (ByContainer c))
  from_container c sound_c h =
      let visited = faultless_cons (visit roles.Container depth c) (item_visits (property_visits levels) depth (elements_of c)) h in
      let items = items_formed levels law depth e facts.room.reached enough (elements_of c) (sound_elements c sound_c) visited.1 in
      let shape = (within_array (kind_of (name_of c)) (map read (elements_of c)) (24 - depth)).1 (
        All-map IsWfValue read (elements_of c) (All-weaker (λ d. Formed (depth + 1) d (read d)) (λ d. IsWfValue (read d)) (λ d k. k.formed) (elements_of c) items),
        All-map (λ v. value_depth v ≤ 24 - depth) read (elements_of c)
            (All-weaker (λ d. Formed (depth + 1) d (read d)) (λ d. value_depth (read d) ≤ 24 - depth)
            (λ d k. let shallow : value_depth (read d) ≤ 25 - (depth + 1) = k.shallow in omega (arith, shallow)) (elements_of c) items),
      ) in
      record {
        fit = fit_value (24 - depth) (Array (kind_of (name_of c)) (map read (elements_of c))) (lang_qualifiers e) shape.0 shape.1 (tagged_alone (24 - depth) (lang_qualifiers e) tag);
        bare = λ is. quals-value (Array (kind_of (name_of c)) (map read (elements_of c))) (lang_qualifiers e);
      }

  from_text : IsAnswer depth e (formed read e ByText)
  from_text = record {
    fit = fit_value (24 - depth) (Simple (own_text e)) (lang_qualifiers e) (sound_text e sound) (omega arith) (tagged_alone (24 - depth) (lang_qualifiers e) tag);
    bare = λ is. quals-value (Simple (own_text e)) (lang_qualifiers e);
  }

  from_attributes : IsAnswer depth e (formed read e ByAttributes)
  unfolding has_value_again has_qualified_uri
  from_attributes =
      let front = or_parts (has_two_values e || has_value_again e) (has_qualified_uri e) facts.attribute_once in
      let again = (or_parts (has_two_values e) (has_value_again e) front.0).1 in
      record {
        fit = attributes_fit (24 - depth) e sound facts.room.lang facts.room.own;
        bare = λ is. attributes_bare e sound (no_inner (has_attribute (is_rdf (codes "value")) e) again is)
            (⊎_elim (λ none. inl (no_inner (has_attribute (is_rdf (codes "resource")) e) none is)) inr
            (and_cases (is_value_element e && has_attribute (is_rdf (codes "resource")) e) (has_attribute is_member_name e) front.1));
      }

  from_form : (f : Form) → IsSoundForm f → has_inner_value f e ≡ false → repeats_member f e ≡ false
      → IsFaultless (form_visits (property_visits levels) depth e f) → IsAnswer depth e (formed read e f)
  from_form ByMembers is inner once h = from_members inner once h
  from_form (ByContainer c) is inner once h = from_container c is h
  from_form (ByNode n) is inner once h = from_node n is inner once h
  from_form ByAttributes is inner once h = from_attributes
  from_form ByText is inner once h = from_text
  from_form NoForm is inner once h = absurd is

step : (levels : ℕ) → FormedAt levels → FormedAt (suc levels)
step levels law depth role e is sound near enough h =
    let visited = faultless_cons (visit role depth e) (form_visits (property_visits levels) depth e (form_of e)) h in
    let facts = form_facts role depth e [] [] is visited.0 in
    let one = from_form levels law depth e sound enough facts (form_of e) (form_sound e (sound_elements e sound) facts.parsed facts.few)
    facts.value_once facts.once visited.1 in
    let shallow = one.fit.shallow in
    let reached = facts.room.reached in
    record {
      reached = reached;
      formed = one.fit.formed;
      shallow = omega (arith, shallow, reached);
      bare = one.bare;
      typed = λ kind. type_uri (value_within levels) e kind;
    }

pub formed_property : FormedProperties
formed_property zero depth role e is sound near enough h = let inner = enough.inner in absurd (omega (arith, inner, near))
formed_property (suc levels) depth role e is sound near enough h = step levels (formed_property levels) depth role e is sound near enough h
