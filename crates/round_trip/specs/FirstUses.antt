-- Which namespaces the names of an element are in, and that those of a written text are declared in the order of their first use.
use Rattle.std.specs.Prelude.{◌≡◌, ℕ, not, List, [], ◌∷◌, ◌++◌, map, fold, filter}
use Rattle.std.specs.List.{flat_map}
use Rattle.std.specs.Str.{bytes_eq}
use Rattle.xmp_values.specs.Spaces.{meta_space, rdf_space, xml_space}
use Rattle.xmp_values.specs.Texts.{with_text}
use Rattle.xmp_values.specs.declared.hints.Hint.{Hint}
use Rattle.xml_grammar.specs.declared.elements.Attribute.{Attribute}
use Rattle.xml_grammar.specs.declared.elements.Child.{Child, Child-F, fold-Child}
use Rattle.xml_grammar.specs.declared.elements.Child.TheVariants as child
use Rattle.xml_grammar.specs.declared.elements.Child.TheOpen.{Element-F}
use Rattle.xml_grammar.specs.declared.elements.Child.TheOpen as layer
use Rattle.xml_grammar.specs.declared.elements.Element.{Element}
use Rattle.xml_grammar.specs.Documents.{IsDocument}
use Rattle.xmp_tree.specs.Parts.{Parts}
use Rattle.xmp_tree.specs.Wf.{Wf}
use Rattle.xmp_write.specs.declared.forms.Form.{Form}
use Rattle.xmp_write.specs.Prefixes.{declared_spaces, spaces_in}
use Rattle.xmp_write.specs.Text.{canonical_text}
use Rattle.xmp_write.specs.Written.{written_members}
use Rattle.xmp_write.specs.WrittenPackets.{canonical_packet}
use Rattle.round_trip.specs.Elements.{IsTree}
use Rattle.round_trip.specs.Law.{IsNote, MayWrite}

abbrev pub attribute_spaces : List Attribute → List (List ℕ)
attribute_spaces = map (λ (a : Attribute). a.name.space)

-- a text has no names
abbrev pub child_spaces : Child-F (List (List ℕ)) (List (List ℕ)) → List (List ℕ)
child_spaces (layer.Element inside) = inside
child_spaces (layer.Text text) = []

-- an element's own name, those of its attributes, and then those in its children
abbrev pub element_spaces : Element-F (List (List ℕ)) (List (List ℕ)) → List (List ℕ)
element_spaces e = e.name.space ∷ (attribute_spaces e.attributes ++ flat_map (λ (inside : List (List ℕ)). inside) e.children)

abbrev pub spaces_within : Child → List (List ℕ)
spaces_within = fold-Child (List (List ℕ)) (List (List ℕ)) child_spaces element_spaces

-- the namespaces of all names of an element and of the elements in it, one for each name, in the order of the document
abbrev pub used_spaces : Element → List (List ℕ)
used_spaces e = spaces_within (child.Element e)

-- The same by first use, each once, but for that of `xml`, which needs no declaration (Namespaces in XML 1.0, section 3).
abbrev pub first_uses : Element → List (List ℕ)
first_uses e = fold with_text [] (filter (λ space. not (bytes_eq space xml_space)) (used_spaces e))

-- The root of a text that writes a tree in a form uses first the namespaces of `x:xmpmeta` and `rdf:RDF`, and then those that the tree
-- and the form give.
abbrev pub TreeUses : Type 0
TreeUses =
    (t : Parts) (form : Form) (root : Element) → IsTree root t.about (written_members t form) → Wf t → IsNote form.note
    → first_uses root ≡ meta_space ∷ rdf_space ∷ declared_spaces t form

-- whatever document a text has, its declarations are of the namespaces that its names use, in the order of first use
abbrev pub DeclaresByUse : List ℕ → Type 0
DeclaresByUse text = (root : Element) (declared : List Hint) → IsDocument text root declared → spaces_in declared ≡ first_uses root

-- The canonical text and the packet of any length declare so.
abbrev pub TextsDeclareByUse : Type 0
TextsDeclareByUse =
    (t : Parts) (hints : List Hint) (form : Form) → MayWrite t hints form
    → DeclaresByUse (canonical_text t hints form) × ((len : ℕ) → DeclaresByUse (canonical_packet t hints form len))
