-- The rules on the attributes and the form of an element with its role: RefusedAttribute to BadItem.
use Rattle.std.specs.Prelude.{Bool, true, false, not, ◌&&◌, ◌||◌, nat_le, if◌then◌else◌, is_some, is_none, length, Option, Some, None, codes}
use Rattle.xmp_values.specs.declared.rules.Rule.{Rule}
use Rattle.xmp_values.specs.declared.rules.Rule.TheVariants.{RefusedAttribute, BadParseType, Mixed, ManyNodes, BadContainer, BadItem}
use Rattle.xml_grammar.specs.declared.elements.Attribute.{Attribute}
use Rattle.xml_grammar.specs.declared.elements.Element.{Element}
use Rattle.rdf_forms.specs.declared.roles.Role.{Role}
use Rattle.rdf_forms.specs.declared.roles.Role.TheVariants as roles
use Rattle.rdf_forms.specs.Words.{is_rdf, in_rdf, is_lang, is_bare_about, is_member_name}
use Rattle.rdf_forms.specs.Parts.{name_of, elements_of, has_blank_text, has_attribute}
use Rattle.rdf_forms.specs.Forms.{Form, ByMembers, ByContainer, ByNode, ByAttributes, form_of, parse_type, is_resource}
use Rattle.rdf_forms.specs.Visits.{is_typed}
use Rattle.rdf_forms.specs.NameRules.{has_some_attribute, is_bare, is_xml}

abbrev pub is_property_or_item : Role → Bool
is_property_or_item (roles.Property holder) = true
is_property_or_item roles.Item = true
is_property_or_item role = false

-- The parts of TwiceValue that name attributes. RefusedAttribute leaves those attributes to it.
-- `rdf:value` and `rdf:resource` on one element
unfoldable pub has_two_values : Element → Bool
has_two_values e = has_attribute (is_rdf (codes "value")) e && has_attribute (is_rdf (codes "resource")) e

abbrev pub is_value_element : Element → Bool
is_value_element e = is_rdf (codes "value") (name_of e)

-- an element `rdf:value` with the attribute `rdf:value`
unfoldable pub has_value_again : Element → Bool
has_value_again e = is_value_element e && has_attribute (is_rdf (codes "value")) e

-- an element `rdf:value` with `rdf:resource` and a property attribute
unfoldable pub has_qualified_uri : Element → Bool
has_qualified_uri e = is_value_element e && has_attribute (is_rdf (codes "resource")) e && has_attribute is_member_name e

-- an attribute because of which TwiceValue holds at its element
unfoldable pub is_twice_value_attribute : Element → Attribute → Bool
is_twice_value_attribute e a =
    (has_two_values e && (is_rdf (codes "value") a.name || is_rdf (codes "resource") a.name))
    || (has_value_again e && is_rdf (codes "value") a.name)
    || (has_qualified_uri e && (is_rdf (codes "resource") a.name || is_member_name a.name))

-- is the attribute, besides `xml:lang` and `rdf:parseType`, allowed in this form
abbrev pub is_form_attribute : Form → Attribute → Bool
is_form_attribute ByAttributes a = is_rdf (codes "value") a.name || is_rdf (codes "resource") a.name || is_member_name a.name
is_form_attribute form a = false

unfoldable pub is_property_attribute : Element → Attribute → Bool
is_property_attribute e a = is_lang a.name || is_rdf (codes "parseType") a.name || is_form_attribute (form_of e) a

-- is the attribute allowed in this role and form, or named by another rule: BadParseType names each `rdf:parseType` that isn't allowed
unfoldable pub is_role_attribute : Role → Element → Attribute → Bool
is_role_attribute roles.Root e a = true
is_role_attribute roles.Rdf e a = false
is_role_attribute roles.Top e a = is_rdf (codes "about") a.name || is_bare_about a.name || is_member_name a.name
is_role_attribute (roles.Property holder) e a = is_property_attribute e a
is_role_attribute roles.Item e a = is_property_attribute e a
is_role_attribute roles.Container e a = false
is_role_attribute roles.Node e a = is_rdf (codes "value") a.name || is_member_name a.name

unfoldable pub is_refused : Role → Element → Attribute → Bool
is_refused role e a = not (is_role_attribute role e a) && not (is_bare role a) && not (is_xml role a) && not (is_twice_value_attribute e a)

-- `rdf:about` and `about` on one top
unfoldable pub has_two_abouts : Role → Element → Bool
has_two_abouts roles.Top e = has_attribute (is_rdf (codes "about")) e && has_attribute is_bare_about e
has_two_abouts role e = false

unfoldable pub refused_attribute : Role → Element → Bool
refused_attribute role e = has_some_attribute (is_refused role e) e || has_two_abouts role e

unfoldable pub bad_parse_type : Role → Element → Bool
bad_parse_type role e = is_property_or_item role && is_some (parse_type e) && not (is_resource (parse_type e))

-- a form whose value stands in child elements
abbrev pub is_form_of_elements : Form → Bool
is_form_of_elements ByMembers = true
is_form_of_elements (ByContainer c) = true
is_form_of_elements (ByNode n) = true
is_form_of_elements form = false

-- an element in this role holds its value in child elements, so that no text may stand beside them (7.4)
abbrev pub has_elements_alone : Role → Element → Bool
has_elements_alone (roles.Property holder) e = is_form_of_elements (form_of e)
has_elements_alone roles.Item e = is_form_of_elements (form_of e)
has_elements_alone role e = true

unfoldable pub mixed : Role → Element → Bool
mixed role e = has_elements_alone role e && not (has_blank_text e)

unfoldable pub many_nodes : Role → Element → Bool
many_nodes role e = is_property_or_item role && is_none (parse_type e) && nat_le 2 (length (elements_of e))

unfoldable pub bad_container : Role → Element → Bool
bad_container roles.Node e = in_rdf (name_of e) && is_typed e
bad_container role e = false

unfoldable pub bad_item : Role → Element → Bool
bad_item roles.Item e = not (is_rdf (codes "li") (name_of e))
bad_item role e = false

-- the least of these rules that an element breaks in its role
unfoldable pub form_rule : Role → Element → Option Rule
form_rule role e =
    if refused_attribute role e then Some RefusedAttribute
    else if bad_parse_type role e then Some BadParseType
    else if mixed role e then Some Mixed
    else if many_nodes role e then Some ManyNodes
    else if bad_container role e then Some BadContainer
    else if bad_item role e then Some BadItem
    else None
