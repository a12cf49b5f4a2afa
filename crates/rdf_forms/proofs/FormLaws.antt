-- The form by the first child element and the number of them.
use Rattle.std.proofs.Common.{◌≡◌, ◌<◌, ◌≤◌, ◌&&◌, ◌||◌, Bool, true, false, List, [], ◌∷◌, length, refl, ap, arith}
use Rattle.std.specs.Prelude.{Some, None, slice_get, codes}
use Rattle.xml_grammar.specs.declared.elements.Element.{Element}
use Rattle.xml_grammar.specs.declared.elements.Attribute.{Attribute}
use Rattle.rdf_forms.specs.Words.{is_rdf, is_member_name}
use Rattle.rdf_forms.specs.FormRules.{is_form_attribute}
use Rattle.rdf_forms.specs.FormViews.{is_by_attributes}
use Rattle.rdf_forms.specs.Forms.{Form, ByMembers, ByContainer, ByNode, ByAttributes, ByText, NoForm, childless_form, child_form, form_by}

pub form_by-none : (e : Element) (typed : Bool) (es : List Element) → None ≡ slice_get es 0 → childless_form e ≡ form_by e typed es
form_by-none e typed [] is = refl
form_by-none e typed (c ∷ cs) is = absurd cc

pub form_by-typed : (e c : Element) (es : List Element) → Some c ≡ slice_get es 0 → NoForm ≡ form_by e true es
form_by-typed e c [] is = absurd cc
form_by-typed e c (d ∷ ds) is = refl

pub form_by-many : (e : Element) (typed : Bool) (es : List Element) → 2 ≤ length es → NoForm ≡ form_by e typed es
form_by-many e typed [] many = absurd (omega (arith, many))
form_by-many e typed (c ∷ []) many = absurd (omega (arith, many))
form_by-many e true (c ∷ d ∷ ds) many = refl
form_by-many e false (c ∷ d ∷ ds) many = refl

pub form_by-one : (e c : Element) (es : List Element) → Some c ≡ slice_get es 0 → length es < 2 → child_form c ≡ form_by e false es
form_by-one e c [] is few = absurd cc
form_by-one e c (d ∷ []) is few = let same : c ≡ d = cc in ap child_form same
form_by-one e c (d ∷ f ∷ fs) is few = absurd (omega (arith, few))

pub ruleset forms = (form_by-none, form_by-typed, form_by-many, form_by-one)

pub is_form_attribute_by : (f : Form) (a : Attribute) → is_form_attribute f a ≡ (is_by_attributes f && (is_rdf (codes "value") a.name || is_rdf (codes "resource") a.name || is_member_name a.name))
is_form_attribute_by ByAttributes a = refl
is_form_attribute_by ByMembers a = refl
is_form_attribute_by (ByContainer c) a = refl
is_form_attribute_by (ByNode n) a = refl
is_form_attribute_by ByText a = refl
is_form_attribute_by NoForm a = refl
