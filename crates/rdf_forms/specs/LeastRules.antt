-- The rules that an element breaks in its role, each by a test of its own, and the least of them by the rules' numbers.
use Rattle.std.specs.Prelude.{◌≡◌, ◌≤◌, Bool, true, false, MatchOption}
use Rattle.std.specs.List.{flat_map}
use Rattle.xmp_values.specs.declared.rules.Rule.{Rule}
use Rattle.xmp_values.specs.declared.rules.Rule.TheVariants.{NoRdf, NotDescription, AboutDiffers, NoNamespace, XmlName, RdfName, RefusedAttribute, BadParseType, Mixed, ManyNodes, BadContainer, BadItem, TwiceValue, Twice, TreeDeep}
use Rattle.xmp_values.specs.Rules.{number_of}
use Rattle.rdf_forms.specs.Visits.{Visit}
use Rattle.rdf_forms.specs.NameRules.{no_rdf, not_description, about_differs, no_namespace, xml_name, rdf_name, first_about}
use Rattle.rdf_forms.specs.FormRules.{refused_attribute, bad_parse_type, mixed, many_nodes, bad_container, bad_item}
use Rattle.rdf_forms.specs.MemberRules.{twice_value, twice, tree_deep, member_names}
use Rattle.rdf_forms.specs.Rules.{broken}

-- whether an element breaks a rule, after the tops before it
abbrev pub breaks : Visit → Rule → Bool
breaks v NoRdf = no_rdf v.role v.element
breaks v NotDescription = not_description v.role v.element
breaks v AboutDiffers = about_differs v.role v.element (first_about v.earlier)
breaks v NoNamespace = no_namespace v.role v.element
breaks v XmlName = xml_name v.role v.element
breaks v RdfName = rdf_name v.role v.element
breaks v RefusedAttribute = refused_attribute v.role v.element
breaks v BadParseType = bad_parse_type v.role v.element
breaks v Mixed = mixed v.role v.element
breaks v ManyNodes = many_nodes v.role v.element
breaks v BadContainer = bad_container v.role v.element
breaks v BadItem = bad_item v.role v.element
breaks v TwiceValue = twice_value v.role v.element
breaks v Twice = twice v.role v.element (flat_map member_names v.earlier)
breaks v TreeDeep = tree_deep v.role v.depth v.element
breaks v rule = false

-- the element breaks the rule, and none of a lesser number
pub record IsLeast (v : Visit) (rule : Rule) : Type 0 where
  pub holds : breaks v rule ≡ true
  pub least : (other : Rule) → breaks v other ≡ true → number_of rule ≤ number_of other

-- The rule that an element breaks is the least of them, and where it has none it breaks none.
abbrev pub LeastRule : Type 0
LeastRule = (v : Visit) → MatchOption (broken v) ((rule : Rule) → breaks v rule ≡ false) (IsLeast v)
