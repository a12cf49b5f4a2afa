-- An element that may be an `rdf:type` has the URI of its `rdf:resource` as its value, without qualifiers.
use Rattle.std.proofs.Common.{◌≡◌, Bool, true, false, not, cond, ◌&&◌, ◌||◌, List, [], ◌∷◌, map, Some, None, refl, ap, sym, subst, ◌∙◌}
use Rattle.std.specs.Prelude.{codes, find, filter, option_map, is_some}
use Rattle.std.specs.List.{list_any}
use Rattle.std.proofs.lemmas.Bool.{and_parts, and_from}
use Rattle.xmp_values.specs.declared.text.Name.{Name}
use Rattle.xml_grammar.specs.declared.elements.Attribute.{Attribute}
use Rattle.xml_grammar.specs.declared.elements.Element.{Element}
use Rattle.xmp_tree.specs.declared.nested.Value.{Value}
use Rattle.xmp_tree.specs.declared.nested.Shape.{Uri}
use Rattle.xmp_tree.specs.Parts.{value}
use Rattle.xmp_tree.specs.Wf.{IsPlainUri}
use Rattle.xmp_tree.proofs.Made.{plain_uri}
use Rattle.rdf_forms.specs.Words.{rdf_space, xml_space, is_rdf, is_lang, is_member_name, in_none, in_rdf, in_xml, rdf}
use Rattle.rdf_forms.specs.Parts.{attributes_of, elements_of, property_attributes, attribute_value, has_blank_text}
use Rattle.rdf_forms.specs.Forms.{ByMembers, ByAttributes, ByText, form_of, form_by, parse_type, is_resource, has_other_attribute}
use Rattle.rdf_forms.specs.NameRules.{is_type_attributes, is_childless, is_type_element}
use Rattle.rdf_forms.specs.Values.{attribute_member, lang_member, listed, lang_qualifiers, attributed, by_attributes, formed}
use Rattle.rdf_soundness.proofs.Words.{rdf_is}

abbrev resource : Name
resource = rdf (codes "resource")

resource_alone : (is_rdf (codes "parseType") resource ≡ false) × (is_rdf (codes "value") resource ≡ false) × (is_lang resource ≡ false) × (is_member_name resource ≡ false)
unfolding is_rdf is_lang is_member_name in_none in_rdf in_xml rdf_space xml_space
resource_alone = (refl, refl, refl, refl)

sole : (xs : List Attribute) → is_type_attributes xs ≡ true → (a : Attribute) × (xs ≡ a ∷ []) × (is_rdf (codes "resource") a.name ≡ true)
sole [] h = absurd cc
sole (a ∷ []) h = (a, refl, h)
sole (a ∷ b ∷ more) h = absurd cc

childless : (es : List Element) → is_childless es ≡ true → es ≡ []
childless [] h = refl
childless (c ∷ cs) h = absurd cc

module _ (e : Element) (a : Attribute) (is : attributes_of e ≡ a ∷ []) (named : is_rdf (codes "resource") a.name ≡ true) where
  same : a.name ≡ resource
  same = rdf_is (codes "resource") a.name named

  -- what a test finds in the one attribute
  sole_value : (is_this : Name → Bool) (b : Bool) → is_this a.name ≡ b → attribute_value is_this e ≡ option_map (λ (x : Attribute). x.value) (cond b (Some a) None)
  sole_value is_this b passes =
      ap (λ xs. option_map (λ (x : Attribute). x.value) (find (λ (x : Attribute). is_this x.name) xs)) is
      ∙ ap (λ b. option_map (λ (x : Attribute). x.value) (cond b (Some a) None)) passes

  no_parse_type : parse_type e ≡ None
  no_parse_type = sole_value (is_rdf (codes "parseType")) false (ap (is_rdf (codes "parseType")) same ∙ resource_alone.0)

  no_value : attribute_value (is_rdf (codes "value")) e ≡ None
  no_value = sole_value (is_rdf (codes "value")) false (ap (is_rdf (codes "value")) same ∙ resource_alone.1)

  no_lang : lang_qualifiers e ≡ []
  unfolding lang_qualifiers
  no_lang = ap (λ o. listed (option_map lang_member o)) (sole_value is_lang false (ap is_lang same ∙ resource_alone.2))

  uri : attribute_value (is_rdf (codes "resource")) e ≡ Some a.value
  uri = sole_value (is_rdf (codes "resource")) true named

  no_own : property_attributes e ≡ []
  no_own = ap (λ xs. filter (λ (x : Attribute). is_member_name x.name) xs) is ∙ ap (λ b. cond b (a ∷ []) []) (ap is_member_name same ∙ resource_alone.3)

  has_other : has_other_attribute e ≡ true
  has_other =
      ap (λ xs. list_any (λ (x : Attribute). not (is_lang x.name)) xs) is ∙ ap (λ b. not b || false) (ap is_lang same ∙ resource_alone.2)

  by_its_attributes : elements_of e ≡ [] → has_blank_text e ≡ true → form_of e ≡ ByAttributes
  unfolding form_of
  by_its_attributes none blank =
      ap (λ o. cond (is_resource o) ByMembers (form_by e (is_some o) (elements_of e))) no_parse_type
      ∙ ap (λ es. form_by e false es) none
      ∙ ap (λ b. cond b ByAttributes ByText) (and_from (has_blank_text e) (has_other_attribute e) blank has_other)

  its_uri : by_attributes e ≡ value (Uri a.value) []
  unfolding by_attributes
  its_uri =
      ap (λ lang. attributed lang (map attribute_member (property_attributes e)) (attribute_value (is_rdf (codes "value")) e) (attribute_value (is_rdf (codes "resource")) e)) no_lang
      ∙ ap (λ xs. attributed [] (map attribute_member xs) (attribute_value (is_rdf (codes "value")) e) (attribute_value (is_rdf (codes "resource")) e)) no_own
      ∙ ap (λ o. attributed [] [] o (attribute_value (is_rdf (codes "resource")) e)) no_value
      ∙ ap (λ o. attributed [] [] None o) uri

pub type_uri : (read : Element → Value) (e : Element) → is_type_element e ≡ true → IsPlainUri (formed read e (form_of e))
unfolding is_type_element
type_uri read e h =
    let parts = and_parts (is_type_attributes (attributes_of e) && is_childless (elements_of e)) (has_blank_text e) h in
    let front = and_parts (is_type_attributes (attributes_of e)) (is_childless (elements_of e)) parts.0 in
    let one = sole (attributes_of e) front.0 in
    let none = childless (elements_of e) front.1 in
    let is : formed read e (form_of e) ≡ value (Uri one.0.value) [] =
    ap (λ f. formed read e f) (by_its_attributes e one.0 one.1 one.2 none parts.1) ∙ its_uri e one.0 one.1 one.2 in
    subst IsPlainUri (sym is) (plain_uri one.0.value)
