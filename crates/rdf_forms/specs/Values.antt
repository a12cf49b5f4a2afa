-- The value of a property or item (ISO 16684-1, 7.4 to 7.9). It is a function of every element; what no form covers has the empty
-- text as its value, and of two members `rdf:value` the first counts.
use Rattle.std.specs.Prelude.{ℕ, zero, suc, Bool, not, ◌||◌, if◌then◌else◌, List, [], ◌∷◌, ◌++◌, Option, Some, None, codes, map, find, filter, option_map}
use Rattle.xmp_values.specs.declared.text.Name.{Name}
use Rattle.xml_grammar.specs.declared.elements.Attribute.{Attribute}
use Rattle.xml_grammar.specs.declared.elements.Element.{Element}
use Rattle.xmp_tree.specs.declared.nested.Value.{Value, out-Value}
use Rattle.xmp_tree.specs.declared.nested.Member.{Member}
use Rattle.xmp_tree.specs.declared.nested.Shape.{Simple, Uri, Struct, Array}
use Rattle.xmp_tree.specs.declared.nested.Kind.{Kind}
use Rattle.xmp_tree.specs.declared.nested.Kind.TheVariants as kinds
use Rattle.xmp_tree.specs.Parts.{value, member}
use Rattle.xmp_tree.specs.Wf.{value_of}
use Rattle.xmp_tree.specs.Wf as tree
use Rattle.xmp_tree.specs.Wf.{lang_name, type_name}
use Rattle.rdf_forms.specs.Words.{is_rdf, is_member_name, is_lang}
use Rattle.rdf_forms.specs.Parts.{name_of, attributes_of, elements_of, own_text, property_attributes, attribute_value}
use Rattle.rdf_forms.specs.Forms.{Form, ByMembers, ByContainer, ByNode, ByAttributes, ByText, NoForm, form_of}

-- a text without qualifiers
abbrev pub plain : List ℕ → Value
plain text = value (Simple text) []

-- an attribute as a member
abbrev pub attribute_member : Attribute → Member
attribute_member a = member a.name (plain a.value)

abbrev pub lang_member : List ℕ → Member
lang_member tag = member lang_name (plain tag)

abbrev pub listed : Option Member → List Member
listed None = []
listed (Some m) = m ∷ []

-- the qualifier that `xml:lang` gives
unfoldable pub lang_qualifiers : Element → List Member
lang_qualifiers e = listed (option_map lang_member (attribute_value is_lang e))

-- the qualifier that a node with a type of its own gives (typed nodes; RDF/XML Syntax, 2.13)
unfoldable pub type_of : Name → List Member
type_of name = if is_rdf (codes "Description") name then [] else member type_name (value (Uri (name.space ++ name.local)) []) ∷ []

unfoldable pub is_value_member : Member → Bool
is_value_member m = is_rdf (codes "value") (tree.name_of m)

-- the members that aren't `rdf:value`
abbrev pub other_members : List Member → List Member
other_members ms = filter (λ m. not (is_value_member m)) ms

-- members with the value of `rdf:value`, if it is among them
abbrev pub composed : List Member → List Member → List Member → Option Member → Value
composed lang types ms None = value (Struct ms) (lang ++ types)
composed lang types ms (Some m) = value (out-Value (value_of m)).shape (lang ++ ((out-Value (value_of m)).quals ++ (types ++ other_members ms)))

-- The value by members: that of `rdf:value`, whose qualifiers the others are, else a structure. First stands `xml:lang`, then
-- the qualifiers of `rdf:value` itself, then the node's type, then the other members in their order.
unfoldable pub by_members : List Member → List Member → List Member → Value
by_members lang types ms = composed lang types ms (find is_value_member ms)

-- a name of an attribute of a node that is a member
abbrev pub is_node_member : Attribute → Bool
is_node_member a = is_member_name a.name || is_rdf (codes "value") a.name

-- the attributes of a node that are members
unfoldable pub node_members : Element → List Member
node_members n = map attribute_member (filter is_node_member (attributes_of n))

unfoldable pub kind_of : Name → Kind
kind_of name = if is_rdf (codes "Bag") name then kinds.Bag else if is_rdf (codes "Seq") name then kinds.Seq else kinds.Alt

-- the value by attributes: of `rdf:value`, of `rdf:resource`, else a structure of the property attributes
abbrev pub attributed : List Member → List Member → Option (List ℕ) → Option (List ℕ) → Value
attributed lang ms (Some text) uri = value (Simple text) (lang ++ ms)
attributed lang ms None (Some uri) = value (Uri uri) (lang ++ ms)
attributed lang ms None None = value (Struct ms) lang

unfoldable pub by_attributes : Element → Value
by_attributes e =
    attributed (lang_qualifiers e) (map attribute_member (property_attributes e)) (attribute_value (is_rdf (codes "value")) e)
    (attribute_value (is_rdf (codes "resource")) e)

-- an element as a member, by a reading of its value
abbrev pub element_member : (Element → Value) → Element → Member
element_member read c = member (name_of c) (read c)

-- the value of an element in a form, by a reading of the values of the elements inside it
abbrev pub formed : (Element → Value) → Element → Form → Value
formed read e ByMembers = by_members (lang_qualifiers e) [] (map (element_member read) (elements_of e))
formed read e (ByContainer c) = value (Array (kind_of (name_of c)) (map read (elements_of c))) (lang_qualifiers e)
formed read e (ByNode n) = by_members (lang_qualifiers e) (type_of (name_of n)) (node_members n ++ map (element_member read) (elements_of n))
formed read e ByAttributes = by_attributes e
formed read e ByText = value (Simple (own_text e)) (lang_qualifiers e)
formed read e NoForm = plain []

-- The value of an element that has fewer levels of elements inside it than `levels`. A document has at most 100.
abbrev pub value_within : ℕ → Element → Value
value_within zero e = plain []
value_within (suc levels) e = formed (value_within levels) e (form_of e)
