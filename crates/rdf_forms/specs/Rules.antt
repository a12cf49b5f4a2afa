-- The rule that an element breaks, and the first fault of a document.
use Rattle.std.specs.Prelude.{ℕ, List, [], ◌∷◌, Option, Some, None}
use Rattle.std.specs.List.{flat_map}
use Rattle.std.specs.Option.{option_or}
use Rattle.xmp_values.specs.declared.text.Name.{Name}
use Rattle.xmp_values.specs.declared.rules.Rule.{Rule}
use Rattle.xml_grammar.specs.declared.elements.Element.{Element}
use Rattle.rdf_forms.specs.declared.roles.Role.{Role}
use Rattle.rdf_forms.specs.Parts.{place_of}
use Rattle.rdf_forms.specs.Visits.{Visit, visits}
use Rattle.rdf_forms.specs.NameRules.{name_rule, first_about}
use Rattle.rdf_forms.specs.FormRules.{form_rule}
use Rattle.rdf_forms.specs.MemberRules.{member_rule, member_names}

-- the least rule that an element breaks in its role, after tops with this first about and these names of members
unfoldable pub broken_in : Role → ℕ → Element → List ℕ → List Name → Option Rule
broken_in role depth e first names = option_or (name_rule role e first) (option_or (form_rule role e) (member_rule role depth e names))

unfoldable pub broken : Visit → Option Rule
broken v = broken_in v.role v.depth v.element (first_about v.earlier) (flat_map member_names v.earlier)

-- a rule with its place, if there is one
abbrev pub placed : ℕ → Option Rule → Option (Rule × ℕ)
placed place None = None
placed place (Some rule) = Some (rule, place)

-- the rule that an element breaks, with the element's place
abbrev pub fault_at : Visit → Option (Rule × ℕ)
fault_at v = placed (place_of v.element) (broken v)

abbrev pub first_fault : List Visit → Option (Rule × ℕ)
first_fault [] = None
first_fault (v ∷ vs) = option_or (fault_at v) (first_fault vs)

-- the first element in the order of the document that breaks a rule, and the least rule that it breaks
abbrev pub fault_of : ℕ → Element → Option (Rule × ℕ)
fault_of levels root = first_fault (visits levels root)
