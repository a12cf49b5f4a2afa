-- What the value of a property or item keeps where nothing in it breaks a rule.
use Rattle.std.specs.Prelude.{ℕ, ◌+◌, ◌-◌, ◌*◌, ◌≤◌, ◌≡◌, IsTrue, IsFalse, None}
use Rattle.xml_grammar.specs.declared.elements.Element.{Element}
use Rattle.xml_grammar.specs.Sound.{IsSound}
use Rattle.xmp_tree.specs.declared.nested.Value.{Value, out-Value}
use Rattle.xmp_tree.specs.Wf.{IsWfValue, value_depth, IsPlainUri}
use Rattle.rdf_forms.specs.declared.roles.Role.{Role}
use Rattle.rdf_forms.specs.Values.{lang_qualifiers, value_within}
use Rattle.rdf_forms.specs.Visits.{property_visits}
use Rattle.rdf_forms.specs.NameRules.{is_type_element}
use Rattle.rdf_forms.specs.FormRules.{is_property_or_item, is_value_element}
use Rattle.rdf_forms.specs.Rules.{first_fault}

-- So many levels that TreeDeep shows before they run out. An element `rdf:value` is as deep as what holds it, which is no `rdf:value`
-- itself: two levels for each depth are enough.
pub record Enough (levels depth : ℕ) (e : Element) : Type 0 where
  pub inner : 2 * (26 - depth) ≤ levels + 1
  pub outer : IsFalse (is_value_element e) → 2 * (26 - depth) ≤ levels

-- A well-formed value of an element at a depth, within the depth of a tree. Of an element `rdf:value` its qualifiers are `xml:lang` alone,
-- which that of its holder doesn't repeat, and an element that may be an `rdf:type` has a URI without qualifiers.
pub record Formed (depth : ℕ) (e : Element) (v : Value) : Type 0 where
  pub reached : depth ≤ 24
  pub formed : IsWfValue v
  pub shallow : value_depth v ≤ 25 - depth
  pub bare : IsTrue (is_value_element e) → (out-Value v).quals ≡ lang_qualifiers e
  pub typed : IsTrue (is_type_element e) → IsPlainUri v

-- a property or item that breaks no rule, nor anything in it, has such a value
abbrev pub FormedProperties : Type 0
FormedProperties =
    (levels depth : ℕ) (role : Role) (e : Element) → IsTrue (is_property_or_item role) → IsSound e → depth ≤ 25 → Enough levels depth e
    → first_fault (property_visits levels role depth e) ≡ None → Formed depth e (value_within levels e)
