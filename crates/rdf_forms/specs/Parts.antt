-- The parts of an element: its attributes, its child elements and its own text. Comments and instructions are in none of them.
use Rattle.std.specs.Prelude.{ℕ, Bool, false, List, [], Option, Some, None, option_map, find, filter}
use Rattle.std.specs.List.{list_all, list_any, filter_map, flat_map}
use Rattle.xmp_values.specs.Characters.{is_blank}
use Rattle.xmp_values.specs.declared.text.Name.{Name}
use Rattle.xml_grammar.specs.declared.elements.Attribute.{Attribute}
use Rattle.xml_grammar.specs.declared.elements.Element.{Element, out-Element}
use Rattle.xml_grammar.specs.declared.elements.Child.{Child, Child-F, out-Child}
use Rattle.xml_grammar.specs.declared.elements.Child.TheOpen as layer
use Rattle.rdf_forms.specs.Words.{is_member_name}

abbrev pub name_of : Element → Name
name_of e = (out-Element e).name

abbrev pub attributes_of : Element → List Attribute
attributes_of e = (out-Element e).attributes

-- the place of its `<`
abbrev pub place_of : Element → ℕ
place_of e = (out-Element e).at

abbrev pub element_in : Child-F Child Element → Option Element
element_in (layer.Element e) = Some e
element_in (layer.Text text) = None

abbrev pub text_in : Child-F Child Element → List ℕ
text_in (layer.Element e) = []
text_in (layer.Text text) = text

-- a child as an element, and as a text
abbrev pub element_at : Child → Option Element
element_at c = element_in (out-Child c)

abbrev pub text_at : Child → List ℕ
text_at c = text_in (out-Child c)

-- is it an element, and one that passes
abbrev pub passes : (Element → Bool) → Option Element → Bool
passes test (Some e) = test e
passes test None = false

-- the elements among children, in their order
abbrev pub elements_in : List Child → List Element
elements_in cs = filter_map element_at cs

abbrev pub elements_of : Element → List Element
elements_of e = elements_in (out-Element e).children

-- the texts among children, joined
abbrev pub own_text : Element → List ℕ
own_text e = flat_map text_at (out-Element e).children

-- white space alone, or nothing
abbrev pub has_blank_text : Element → Bool
has_blank_text e = list_all is_blank (own_text e)

-- the value of the first attribute whose name passes
abbrev pub attribute_value : (Name → Bool) → Element → Option (List ℕ)
attribute_value is_this e = option_map (λ (a : Attribute). a.value) (find (λ (a : Attribute). is_this a.name) (attributes_of e))

abbrev pub has_attribute : (Name → Bool) → Element → Bool
has_attribute is_this e = list_any (λ (a : Attribute). is_this a.name) (attributes_of e)

-- the property attributes, in their order
abbrev pub property_attributes : Element → List Attribute
property_attributes e = filter (λ (a : Attribute). is_member_name a.name) (attributes_of e)

abbrev pub has_element : (Name → Bool) → Element → Bool
has_element is_this e = list_any (λ c. is_this (name_of c)) (elements_of e)

-- the element's children whose name passes
abbrev pub elements_named : (Name → Bool) → Element → List Element
elements_named is_this e = filter (λ c. is_this (name_of c)) (elements_of e)
