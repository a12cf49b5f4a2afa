-- A tag with its declarations apart and its names expanded.
use Rattle.std.specs.Prelude.{ℕ, Bool, ◌||◌, List, [], ◌∷◌, ◌++◌, map, Option, Some, None, codes}
use Rattle.std.specs.List.{list_any, filter_map}
use Rattle.std.specs.Str.{bytes_eq}
use Rattle.xml_grammar.specs.declared.elements.Attribute.{Attribute}
use Rattle.xml_grammar.specs.declared.tags.QName.{QName}
use Rattle.xml_grammar.specs.declared.tags.RawAttribute.{RawAttribute}
use Rattle.xml_grammar.specs.declared.tags.Tag.{Tag}
use Rattle.xmp_values.specs.Names.{same_name}
use Rattle.xml_grammar.specs.Scopes.{Binding, binding_of, bindings_of, plain_attributes, same_prefix, element_name, expanded, is_unbound, is_misbound, expanded_attributes}
use Rattle.xml_grammar.specs.Nesting.{has_unbound, has_twice}
use Rattle.xml_grammar.specs.Trees.{hint_of}
use Rattle.xmp_xml.specs.declared.builder.Frame.{Frame}
use Rattle.xmp_xml.specs.declared.builder.Builder.{Builder}
use Rattle.xmp_xml.specs.declared.tags.Parts.{Parts}
use Rattle.xmp_xml.specs.declared.tags.Tagged.{Tagged}
use Rattle.xmp_xml.specs.Building.{bound_of, frame}

-- ---- declarations apart

-- does an attribute of this name declare a namespace
abbrev pub declares : Option (List ℕ) → List ℕ → Bool
declares None local = bytes_eq local (codes "xmlns")
declares (Some prefix) local = bytes_eq prefix (codes "xmlns")

abbrev pub same_binding : Binding → Binding → Bool
same_binding a b = same_prefix a.prefix b.prefix

abbrev pub with_declaration : Parts → Option (List ℕ) → List ℕ → Parts
with_declaration p prefix space = record { declared = p.declared ++ record { prefix = prefix; space = space } ∷ []; plain = p.plain }

abbrev pub with_plain : Parts → RawAttribute → Parts
with_plain p a = record { declared = p.declared; plain = p.plain ++ a ∷ [] }

abbrev pub placed_in : Parts → RawAttribute → Option Binding → Parts
placed_in p a None = with_plain p a
placed_in p a (Some b) = with_declaration p b.prefix b.space

-- with one attribute more
abbrev pub with_attribute : Parts → RawAttribute → Parts
with_attribute p a = placed_in p a (binding_of a)

-- the declarations and the other attributes
abbrev pub divided : List RawAttribute → Parts
divided attributes = record { declared = bindings_of attributes; plain = plain_attributes attributes }

-- ---- all of a tag

-- the prefix of an attribute isn't bound
abbrev pub lacks_one : List Binding → RawAttribute → Bool
lacks_one bound a = is_unbound bound a.name.prefix

abbrev pub same_attribute : Attribute → Attribute → Bool
same_attribute a b = same_name a.name b.name

-- the frame of an element, by what is in force inside it
abbrev pub frame_in : List Binding → ℕ → QName → List RawAttribute → ℕ → Frame
frame_in bound at name plain declared =
    record { at = at; spelled = name; name = element_name bound name; attributes = map (expanded bound) plain; declared = declared; children = [] }

-- by the declarations in force inside the element
abbrev pub tagged_with : List Binding → ℕ → Tag → Tagged
tagged_with bound at tag = record {
  frame = frame at tag bound;
  hints = filter_map hint_of (bindings_of tag.attributes);
  misbound = list_any is_misbound (bindings_of tag.attributes);
  unbound = has_unbound bound tag;
  twice = has_twice same_binding (bindings_of tag.attributes) || has_twice same_attribute (expanded_attributes bound tag.attributes);
  empty = tag.empty;
}

-- what is in force inside the element of a tag
abbrev pub inside_of : Builder → Tag → List Binding
inside_of s tag = bindings_of tag.attributes ++ bound_of s.outer s.scope

abbrev pub tagged : Builder → ℕ → Tag → Tagged
tagged s at tag = tagged_with (inside_of s tag) at tag
