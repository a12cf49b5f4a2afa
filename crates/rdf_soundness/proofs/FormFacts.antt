-- What the rules leave of a property or item of a form.
use Rattle.std.proofs.Common.{◌≡◌, ℕ, Bool, true, false, not, cond, ◌&&◌, ◌||◌, List, [], ◌∷◌, length, Option, Some, None, refl, arith, IsTrue}
use Rattle.std.specs.Prelude.{All, nat_le, is_some, is_none}
use Rattle.std.proofs.lemmas.Bool.{or_parts, both_ways, not-false, le-leb}
use Rattle.std.proofs.lemmas.List.Elements.{All-head}
use Rattle.xmp_values.specs.declared.text.Name.{Name}
use Rattle.xml_grammar.specs.declared.elements.Element.{Element}
use Rattle.xml_grammar.specs.Sound.{IsSound}
use Rattle.rdf_forms.specs.declared.roles.Role.{Role}
use Rattle.rdf_forms.specs.declared.roles.Role.TheVariants as roles
use Rattle.rdf_forms.specs.Words.{is_lang, is_container}
use Rattle.rdf_forms.specs.Parts.{name_of, elements_of, has_attribute, has_blank_text}
use Rattle.rdf_forms.specs.Forms.{Form, ByMembers, ByContainer, ByNode, ByAttributes, ByText, NoForm, form_of, form_by, child_form, parse_type, is_resource}
use Rattle.rdf_forms.specs.FormRules.{is_property_or_item, has_two_values, has_value_again, has_qualified_uri, bad_parse_type, many_nodes}
use Rattle.rdf_forms.specs.MemberRules.{has_inner_value, repeats_member, twice_value, twice, tree_deep}
use Rattle.rdf_soundness.proofs.Unbroken.{IsUnbroken}
use Rattle.rdf_soundness.proofs.Members.{IsRoomy, roomy}

-- what holds of a property and an item alike
pub record IsUnbrokenForm (depth : ℕ) (e : Element) : Type 0 where
  pub room : IsRoomy depth e
  pub attribute_once : (has_two_values e || has_value_again e || has_qualified_uri e) ≡ false
  pub value_once : has_inner_value (form_of e) e ≡ false
  pub once : repeats_member (form_of e) e ≡ false
  pub parsed : (is_some (parse_type e) && not (is_resource (parse_type e))) ≡ false
  pub few : (is_none (parse_type e) && nat_le 2 (length (elements_of e))) ≡ false

pub form_facts : (role : Role) (depth : ℕ) (e : Element) (first : List ℕ) (names : List Name) → IsTrue (is_property_or_item role)
    → IsUnbroken role depth e first names → IsUnbrokenForm depth e
unfolding twice_value twice tree_deep bad_parse_type many_nodes
form_facts (roles.Property holder) depth e first names is h =
    let values = or_parts (has_two_values e || has_value_again e || has_qualified_uri e) (has_inner_value (form_of e) e) h.value_once in
    record { room = roomy depth e h.shallow; attribute_once = values.0; value_once = values.1; once = h.once; parsed = h.parsed; few = h.few_nodes }
form_facts roles.Item depth e first names is h =
    let values = or_parts (has_two_values e || has_value_again e || has_qualified_uri e) (has_inner_value (form_of e) e) h.value_once in
    record { room = roomy depth e h.shallow; attribute_once = values.0; value_once = values.1; once = h.once; parsed = h.parsed; few = h.few_nodes }
form_facts role depth e first names is h = absurd cc

-- ---- the element that a form names is sound, and there is a form

abbrev pub IsSoundForm : Form → Type 0
IsSoundForm (ByContainer c) = IsSound c
IsSoundForm (ByNode n) = IsSound n
IsSoundForm NoForm = ⊥
IsSoundForm form = Unit {0}

child_sound : (c : Element) → IsSound c → IsSoundForm (child_form c)
child_sound c h = by (is_container (name_of c))
  where
    by : (b : Bool) → IsSoundForm (cond b (ByContainer c) (ByNode c))
    by true = h
    by false = h

childless_sound : (b : Bool) → IsSoundForm (cond b ByAttributes ByText)
childless_sound true = tt
childless_sound false = tt

by_sound : (e : Element) (o : Option (List ℕ)) (es : List Element) → All IsSound es → is_resource o ≡ false → (is_some o && not (is_resource o)) ≡ false
    → (is_none o && nat_le 2 (length es)) ≡ false → IsSoundForm (form_by e (is_some o) es)
by_sound e o [] h other parsed few = childless_sound (has_blank_text e && has_attribute (λ n. not (is_lang n)) e)
by_sound e (Some kind) (c ∷ cs) h other parsed few = absurd (both_ways (is_resource (Some kind)) other (not-false (is_resource (Some kind)) parsed))
by_sound e None (c ∷ []) h other parsed few = child_sound c (All-head IsSound c [] h)
by_sound e None (c ∷ d ∷ cs) h other parsed few = absurd (both_ways (nat_le 2 (length (c ∷ d ∷ cs))) few (le-leb 2 (length (c ∷ d ∷ cs)) (omega arith)))

pub form_sound : (e : Element) → All IsSound (elements_of e) → (is_some (parse_type e) && not (is_resource (parse_type e))) ≡ false
    → (is_none (parse_type e) && nat_le 2 (length (elements_of e))) ≡ false → IsSoundForm (form_of e)
unfolding form_of
form_sound e h parsed few = by (is_resource (parse_type e)) refl
  where
    by : (b : Bool) → is_resource (parse_type e) ≡ b → IsSoundForm (cond b ByMembers (form_by e (is_some (parse_type e)) (elements_of e)))
    by true is = tt
    by false is = by_sound e (parse_type e) (elements_of e) h is parsed few
