-- What a document means: its tree (ISO 16684-1, 7.3 and 7.4), its note and its places.
use Rattle.std.specs.Prelude.{ℕ, Bool, not, ◌&&◌, ◌==◌, if◌then◌else◌, List, [], ◌∷◌, ◌++◌, length, map, Option, Some, None, find, filter, option_and_then, codes}
use Rattle.std.specs.List.{flat_map, list_all}
use Rattle.xmp_values.specs.Digits.{is_digit, capital}
use Rattle.xmp_values.specs.declared.hints.Hint.{Hint}
use Rattle.xmp_tree.specs.declared.nested.Value.{Value, out-Value}
use Rattle.xmp_tree.specs.declared.nested.Member.{Member}
use Rattle.xmp_tree.specs.declared.nested.Shape.{Shape, Shape-F, out-Shape}
use Rattle.xmp_tree.specs.declared.nested.Shape.TheOpen as shape
use Rattle.xmp_tree.specs.Parts.{Parts}
use Rattle.xmp_tree.specs.Wf as tree
use Rattle.xml_grammar.specs.declared.elements.Attribute.{Attribute}
use Rattle.xml_grammar.specs.declared.elements.Element.{Element}
use Rattle.xmp_tree.specs.Wf.{note_name}
use Rattle.rdf_forms.specs.Words.{same_name, is_rdf}
use Rattle.rdf_forms.specs.Parts.{name_of, place_of, elements_of, property_attributes}
use Rattle.rdf_forms.specs.Values.{attribute_member, element_member, value_within}
use Rattle.rdf_forms.specs.NameRules.{first_about}

-- a property with its place: of its element, or of the top for a property attribute
abbrev pub Placed : Type 0
Placed = ℕ × Member

-- the `rdf:RDF` of a document, as a list of one
abbrev pub rdf_of : Element → List Element
rdf_of root = if is_rdf (codes "RDF") (name_of root) then root ∷ [] else filter (λ c. is_rdf (codes "RDF") (name_of c)) (elements_of root)

abbrev pub tops_of : Element → List Element
tops_of root = flat_map elements_of (rdf_of root)

-- a top's property attributes, then its child elements
abbrev pub placed_in : ℕ → Element → List Placed
placed_in levels t =
    map (λ (a : Attribute). (place_of t, attribute_member a)) (property_attributes t)
    ++ map (λ c. (place_of c, element_member (value_within levels) c)) (elements_of t)

abbrev pub is_note : Placed → Bool
is_note p = same_name (tree.name_of p.1) note_name

abbrev pub all_placed : ℕ → Element → List Placed
all_placed levels root = flat_map (placed_in levels) (tops_of root)

-- The note is no property.
abbrev pub properties : ℕ → Element → List Placed
properties levels root = filter (λ p. not (is_note p)) (all_placed levels root)

-- 32 hexadecimal digits, as capitals
abbrev pub digits_in : List ℕ → Option (List ℕ)
digits_in text = if (length text == 32) && list_all is_digit text then Some (map capital text) else None

abbrev pub shape_digits : Shape-F Shape Member Value → Option (List ℕ)
shape_digits (shape.Simple text) = digits_in text
shape_digits (shape.Uri text) = None
shape_digits (shape.Struct fields) = None
shape_digits (shape.Array kind items) = None

-- the note, where it is a simple text of 32 hexadecimal digits, whatever its qualifiers
abbrev pub note_of : ℕ → Element → Option (List ℕ)
note_of levels root = option_and_then (λ (p : Placed). shape_digits (out-Shape (out-Value (tree.value_of p.1)).shape)) (find is_note (all_placed levels root))

abbrev pub tree_of : ℕ → Element → Parts
tree_of levels root = record { about = first_about (tops_of root); props = map (λ (p : Placed). p.1) (properties levels root) }

abbrev pub places_of : ℕ → Element → List ℕ
places_of levels root = map (λ (p : Placed). p.0) (properties levels root)

-- a tree, hints, the name of the extended text, and the place of each property
pub record Meaning : Type 0 where
  pub tree : Parts
  pub hints : List Hint
  pub note : Option (List ℕ)
  pub places : List ℕ

-- the meaning of a document with these declarations, which has no more levels of elements than `levels`
abbrev pub meaning_of : ℕ → Element → List Hint → Meaning
meaning_of levels root hints = record { tree = tree_of levels root; hints = hints; note = note_of levels root; places = places_of levels root }
