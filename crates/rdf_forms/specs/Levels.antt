-- More levels change nothing: what is given by levels of elements is the same for every number of levels that is at least the height.
-- None of this need be believed: it shows that no definition rests on a number of levels.
use Rattle.std.specs.Prelude.{ℕ, ◌≤◌, ◌≡◌}
use Rattle.xml_grammar.specs.declared.elements.Element.{Element}
use Rattle.xml_grammar.specs.Heights.{height}
use Rattle.rdf_forms.specs.declared.roles.Role.{Role}
use Rattle.rdf_forms.specs.Values.{value_within}
use Rattle.rdf_forms.specs.Visits.{property_visits}
use Rattle.rdf_forms.specs.Rules.{fault_of}
use Rattle.rdf_forms.specs.Meaning.{tree_of, note_of, places_of}

-- the value of an element
abbrev pub SettledValue : Type 0
SettledValue = (levels more : ℕ) (e : Element) → height e ≤ levels → levels ≤ more → value_within more e ≡ value_within levels e

-- the elements with a role in a property or item
abbrev pub SettledVisits : Type 0
SettledVisits =
    (levels more : ℕ) (role : Role) (depth : ℕ) (e : Element) → height e ≤ levels → levels ≤ more
    → property_visits more role depth e ≡ property_visits levels role depth e

-- the first fault of a document, and what it means
pub record IsSettled (levels more : ℕ) (root : Element) : Type 0 where
  pub fault : fault_of more root ≡ fault_of levels root
  pub tree : tree_of more root ≡ tree_of levels root
  pub note : note_of more root ≡ note_of levels root
  pub places : places_of more root ≡ places_of levels root

abbrev pub SettledMeaning : Type 0
SettledMeaning = (levels more : ℕ) (root : Element) → height root ≤ levels → levels ≤ more → IsSettled levels more root
