-- The rules on the name of an element with its role, on its attributes' namespaces, and on the about: NoRdf to RdfName.
use Rattle.std.specs.Prelude.{ℕ, Bool, true, false, not, ◌&&◌, ◌||◌, if◌then◌else◌, List, [], ◌∷◌, Option, Some, None, codes}
use Rattle.std.specs.List.{list_any}
use Rattle.std.specs.Str.{bytes_eq}
use Rattle.xmp_values.specs.declared.rules.Rule.{Rule}
use Rattle.xmp_values.specs.declared.rules.Rule.TheVariants.{NoRdf, NotDescription, AboutDiffers, NoNamespace, XmlName, RdfName}
use Rattle.xml_grammar.specs.declared.elements.Attribute.{Attribute}
use Rattle.xml_grammar.specs.declared.elements.Element.{Element}
use Rattle.rdf_forms.specs.declared.roles.Role.{Role}
use Rattle.rdf_forms.specs.declared.roles.Role.TheVariants as roles
use Rattle.rdf_forms.specs.declared.roles.Holder.{Holder}
use Rattle.rdf_forms.specs.declared.roles.Holder.TheVariants as holders
use Rattle.rdf_forms.specs.Words.{is_rdf, is_meta, in_rdf, in_xml, in_none, is_lang, is_bare_about}
use Rattle.rdf_forms.specs.Parts.{name_of, attributes_of, elements_of, has_blank_text, attribute_value}

abbrev pub is_property_or_node : Role → Bool
is_property_or_node (roles.Property holder) = true
is_property_or_node roles.Node = true
is_property_or_node role = false

abbrev pub has_some_attribute : (Attribute → Bool) → Element → Bool
has_some_attribute p e = list_any p (attributes_of e)

-- NoRdf: the root is no `x:xmpmeta` either, or holds something else than one `rdf:RDF`.
abbrev pub is_one_rdf : List Element → Bool
is_one_rdf [] = false
is_one_rdf (c ∷ []) = is_rdf (codes "RDF") (name_of c)
is_one_rdf (c ∷ d ∷ cs) = false

unfoldable pub no_rdf : Role → Element → Bool
no_rdf roles.Root e = not (is_meta (name_of e)) || not (is_one_rdf (elements_of e))
no_rdf role e = false

unfoldable pub not_description : Role → Element → Bool
not_description roles.Top e = not (is_rdf (codes "Description") (name_of e))
not_description role e = false

abbrev pub first_of : Option (List ℕ) → Option (List ℕ) → List ℕ
first_of (Some text) more = text
first_of None (Some text) = text
first_of None None = []

-- a top's about, where `rdf:about` counts before `about`
unfoldable pub about_of : Element → List ℕ
about_of t = first_of (attribute_value (is_rdf (codes "about")) t) (attribute_value is_bare_about t)

-- the first about that isn't empty, else the empty text
abbrev pub first_about : List Element → List ℕ
first_about [] = []
first_about (t ∷ ts) = if bytes_eq (about_of t) [] then first_about ts else about_of t

abbrev pub differs : List ℕ → List ℕ → Bool
differs about first = not (bytes_eq about []) && not (bytes_eq first []) && not (bytes_eq about first)

-- AboutDiffers: from the first about of the earlier tops
unfoldable pub about_differs : Role → Element → List ℕ → Bool
about_differs roles.Top e first = differs (about_of e) first
about_differs role e first = false

-- an attribute without namespace where none may stand
unfoldable pub is_bare : Role → Attribute → Bool
is_bare roles.Top a = in_none a.name && not (is_bare_about a.name)
is_bare roles.Root a = false
is_bare roles.Rdf a = false
is_bare role a = in_none a.name

unfoldable pub is_bare_element : Role → Element → Bool
is_bare_element (roles.Property holder) e = in_none (name_of e)
is_bare_element roles.Item e = in_none (name_of e)
is_bare_element roles.Node e = in_none (name_of e)
is_bare_element role e = false

unfoldable pub no_namespace : Role → Element → Bool
no_namespace role e = is_bare_element role e || has_some_attribute (is_bare role) e

-- an attribute in XML's namespace on a property or node, other than `xml:lang`
unfoldable pub is_xml : Role → Attribute → Bool
is_xml role a = is_property_or_node role && in_xml a.name && not (is_lang a.name)

unfoldable pub xml_name : Role → Element → Bool
xml_name role e = (is_property_or_node role && in_xml (name_of e)) || has_some_attribute (is_xml role) e

-- `rdf:type` by its one attribute, `rdf:resource`
abbrev pub is_type_attributes : List Attribute → Bool
is_type_attributes [] = false
is_type_attributes (a ∷ []) = is_rdf (codes "resource") a.name
is_type_attributes (a ∷ b ∷ more) = false

abbrev pub is_childless : List Element → Bool
is_childless [] = true
is_childless (c ∷ cs) = false

unfoldable pub is_type_element : Element → Bool
is_type_element e = is_type_attributes (attributes_of e) && is_childless (elements_of e) && has_blank_text e

-- `rdf:value` may be a member of a value, and `rdf:type` beside it
unfoldable pub is_allowed_member : Holder → Element → Bool
is_allowed_member holders.Top e = false
is_allowed_member (holders.Value with_value) e =
    is_rdf (codes "value") (name_of e) || (is_rdf (codes "type") (name_of e) && with_value && is_type_element e)

unfoldable pub rdf_name : Role → Element → Bool
rdf_name (roles.Property holder) e = in_rdf (name_of e) && not (is_allowed_member holder e)
rdf_name role e = false

-- the least of these rules that an element breaks in its role, after tops with this first about
unfoldable pub name_rule : Role → Element → List ℕ → Option Rule
name_rule role e first =
    if no_rdf role e then Some NoRdf
    else if not_description role e then Some NotDescription
    else if about_differs role e first then Some AboutDiffers
    else if no_namespace role e then Some NoNamespace
    else if xml_name role e then Some XmlName
    else if rdf_name role e then Some RdfName
    else None
