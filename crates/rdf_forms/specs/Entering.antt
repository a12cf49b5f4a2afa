-- What a set of names holds, and what entering names in it gives.
use Rattle.std.specs.Prelude.{◌≡◌, ◌↔◌, Bool, true, false, ◌||◌, List, ◌++◌, Contains, map, filter}
use Rattle.xmp_values.specs.declared.text.Name.{Name}
use Rattle.xml_grammar.specs.declared.elements.Attribute.{Attribute}
use Rattle.xml_grammar.specs.declared.elements.Child.{Child}
use Rattle.rdf_forms.specs.Words.{is_member_name}
use Rattle.rdf_forms.specs.Parts.{name_of, elements_in}
use Rattle.rdf_forms.specs.MemberRules.{has_again, has_common, attribute_names, other_names}

-- the set holds these names, in an order of its own
abbrev pub Holds : List Name → List Name → Type 0
Holds set names = (n : Name) → Contains set n ↔ Contains names n

-- one of these names stands among those, or again after itself
abbrev pub clashes : List Name → List Name → Bool
clashes ns those = has_common ns those || has_again ns

-- the names of the elements among children, and of the property attributes among attributes
abbrev pub element_names : List Child → List Name
element_names cs = map name_of (elements_in cs)

abbrev pub property_attribute_names : List Attribute → List Name
property_attribute_names attributes = attribute_names (filter (λ (a : Attribute). is_member_name a.name) attributes)

-- names, or those of them that aren't `rdf:value`
abbrev pub entered : Bool → List Name → List Name
entered true ns = other_names ns
entered false ns = ns

pub record IsEntered (those ns set : List Name) : Type 0 where
  pub apart : clashes ns those ≡ false
  pub holds : Holds set (those ++ ns)

-- what entering names in a set of those makes of it: the set of both, unless they clash
abbrev pub Enters : List Name → List Name → List Name → Bool → Type 0
Enters those ns set true = IsEntered those ns set
Enters those ns set false = clashes ns those ≡ true
