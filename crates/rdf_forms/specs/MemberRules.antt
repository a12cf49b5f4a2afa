-- The rules on the members of an element with its role, and on its depth: TwiceValue, Twice and TreeDeep.
use Rattle.std.specs.Prelude.{ℕ, Bool, true, false, not, ◌&&◌, ◌||◌, ◌==◌, ◌+◌, nat_lt, nat_le, if◌then◌else◌, List, [], ◌∷◌, ◌++◌, length, map, Option, Some, None, filter, codes}
use Rattle.std.specs.List.{list_any}
use Rattle.xmp_values.specs.declared.text.Name.{Name}
use Rattle.xmp_values.specs.declared.rules.Rule.{Rule}
use Rattle.xmp_values.specs.declared.rules.Rule.TheVariants.{TwiceValue, Twice, TreeDeep}
use Rattle.xml_grammar.specs.declared.elements.Attribute.{Attribute}
use Rattle.xml_grammar.specs.declared.elements.Element.{Element}
use Rattle.rdf_forms.specs.declared.roles.Role.{Role}
use Rattle.rdf_forms.specs.declared.roles.Role.TheVariants as roles
use Rattle.rdf_forms.specs.Words.{same_name, is_rdf, is_lang, is_member_name}
use Rattle.rdf_forms.specs.Parts.{name_of, elements_of, elements_named, has_attribute, has_element, property_attributes}
use Rattle.rdf_forms.specs.Forms.{Form, ByMembers, ByNode, form_of}
use Rattle.rdf_forms.specs.Visits.{has_value_member, is_typed}
use Rattle.rdf_forms.specs.FormRules.{has_two_values, is_value_element, has_value_again, has_qualified_uri}

-- TwiceValue by the members of a property or item: two members `rdf:value` in it, or an element `rdf:value` that has one itself or whose
-- node has a type of its own
abbrev pub has_inner_value : Form → Element → Bool
has_inner_value ByMembers e = nat_le 2 (length (elements_named (is_rdf (codes "value")) e)) || (is_value_element e && has_element (is_rdf (codes "value")) e)
has_inner_value (ByNode n) e = is_value_element e && (has_value_member n || is_typed n)
has_inner_value form e = false

abbrev pub count_of : Bool → ℕ
count_of true = 1
count_of false = 0

-- how many members `rdf:value` a node has
abbrev pub value_count : Element → ℕ
value_count n = count_of (has_attribute (is_rdf (codes "value")) n) + length (elements_named (is_rdf (codes "value")) n)

-- TwiceValue by the members of a role
abbrev pub has_role_value_twice : Role → Element → Bool
has_role_value_twice (roles.Property holder) e = has_inner_value (form_of e) e
has_role_value_twice roles.Item e = has_inner_value (form_of e) e
has_role_value_twice roles.Node e = nat_le 2 (value_count e)
has_role_value_twice role e = false

abbrev pub has_attribute_value_twice : Role → Element → Bool
has_attribute_value_twice roles.Root e = false
has_attribute_value_twice role e = has_two_values e || has_value_again e || has_qualified_uri e

unfoldable pub twice_value : Role → Element → Bool
twice_value role e = has_attribute_value_twice role e || has_role_value_twice role e

-- whether some name stands again later in the list
abbrev pub has_again : List Name → Bool
has_again [] = false
has_again (n ∷ ns) = list_any (same_name n) ns || has_again ns

-- one of these names stands among those
abbrev pub has_common : List Name → List Name → Bool
has_common ns those = list_any (λ n. list_any (same_name n) those) ns

abbrev pub attribute_names : List Attribute → List Name
attribute_names attributes = map (λ (a : Attribute). a.name) attributes

-- the names of a top's or a node's members: its property attributes, then its child elements
unfoldable pub member_names : Element → List Name
member_names e = attribute_names (property_attributes e) ++ map name_of (elements_of e)

-- without `rdf:value`, of which TwiceValue speaks
abbrev pub other_names : List Name → List Name
other_names ns = filter (λ n. not (is_rdf (codes "value") n)) ns

-- a member `rdf:value`, as an element, with `xml:lang`
abbrev pub has_lang_value : Element → Bool
has_lang_value e = list_any (has_attribute is_lang) (elements_named (is_rdf (codes "value")) e)

abbrev pub repeats_member : Form → Element → Bool
repeats_member ByMembers e = has_again (other_names (map name_of (elements_of e))) || (has_attribute is_lang e && has_lang_value e)
repeats_member (ByNode n) e = has_attribute is_lang e && has_lang_value n
repeats_member form e = false

-- Twice: at a top, a name of its members also among those of the earlier tops, or earlier in it; at a node, a name of its
-- members again, or `rdf:type` beside its own type; at a property or item, a name of its own members again, or two `xml:lang`
unfoldable pub twice : Role → Element → List Name → Bool
twice roles.Top e names = has_common (member_names e) names || has_again (member_names e)
twice (roles.Property holder) e names = repeats_member (form_of e) e
twice roles.Item e names = repeats_member (form_of e) e
twice roles.Node e names = has_again (other_names (member_names e)) || (is_typed e && has_element (is_rdf (codes "type")) e)
twice role e names = false

-- the deepest that a tree goes
abbrev pub most_depth : ℕ
most_depth = 24

-- deeper than that, or as deep with an attribute that gives a member one deeper
abbrev pub too_deep : ℕ → Element → Bool
too_deep depth e = nat_lt most_depth depth || (depth == most_depth && (has_attribute is_lang e || has_attribute is_member_name e))

unfoldable pub tree_deep : Role → ℕ → Element → Bool
tree_deep (roles.Property holder) depth e = too_deep depth e
tree_deep roles.Item depth e = too_deep depth e
tree_deep roles.Node depth e = depth == most_depth && (has_attribute is_member_name e || is_typed e)
tree_deep role depth e = false

-- the least of these rules that an element breaks in its role, after tops whose members have these names
unfoldable pub member_rule : Role → ℕ → Element → List Name → Option Rule
member_rule role depth e names =
    if twice_value role e then Some TwiceValue
    else if twice role e names then Some Twice
    else if tree_deep role depth e then Some TreeDeep
    else None
