-- A tree and an element, to see that the namespaces by first use are what they are meant to be.
use Rattle.std.proofs.Common.{◌≡◌, ℕ, not, List, [], ◌∷◌, ◌++◌, map, None, fold, refl, sym, ap, ◌∙◌}
use Rattle.std.specs.Prelude.{codes, filter}
use Rattle.std.specs.List.{flat_map}
use Rattle.std.specs.Str.{bytes_eq}
use Rattle.xmp_values.specs.Spaces.{rdf_space, xml_space, meta_space}
use Rattle.xmp_values.specs.Texts.{with_text}
use Rattle.xmp_values.specs.declared.text.Name.{Name}
use Rattle.xml_grammar.specs.declared.elements.Attribute.{Attribute}
use Rattle.xml_grammar.specs.declared.elements.Child.{Child, fold-roll-Child}
use Rattle.xml_grammar.specs.declared.elements.Child.TheVariants as child
use Rattle.xml_grammar.specs.declared.elements.Child.TheFolds.{fold-roll-Element}
use Rattle.xml_grammar.specs.declared.elements.Child.TheViews as views
use Rattle.xml_grammar.specs.declared.elements.Child.TheOpen as layer
use Rattle.xml_grammar.specs.declared.elements.Element.{Element}
use Rattle.xml_grammar.proofs.TreeEvents.{element}
use Rattle.xmp_tree.specs.declared.nested.Kind.TheVariants.{Bag}
use Rattle.xmp_tree.specs.declared.nested.Member.{Member'}
use Rattle.xmp_tree.specs.declared.nested.Value.{Value, Value', end_of-Member, more_of-Member}
use Rattle.xmp_tree.specs.declared.nested.Shape.{Simple, Struct', Array', end_of-Value, more_of-Value}
use Rattle.xmp_tree.specs.Parts.{Parts}
use Rattle.xmp_tree.specs.Wf.{lang_name}
use Rattle.rdf_forms.specs.Words.{rdf}
use Rattle.xmp_write.specs.Prefixes.{declared_spaces}
use Rattle.round_trip.specs.FirstUses.{attribute_spaces, child_spaces, element_spaces, spaces_within, used_spaces, first_uses}

abbrev name : List ℕ → Name
name space = record { space = space; local = codes "p" }

abbrev plain : List ℕ → Value
plain text = Value' (Simple text) [] end_of-Member

-- Fields come before qualifiers, and items before those of theirs; the language's namespace is fixed.
abbrev tree : Parts
tree = record {
  about = [];
  props =
      Member' (name (codes "urn:a")) (Value'
      (Struct' (tt ∷ tt ∷ []) (more_of-Member
      (Member' (name (codes "urn:b")) (Value'
      (Array' Bag (tt ∷ []) (more_of-Value (Value' (Simple []) (tt ∷ []) (more_of-Member (Member' (name (codes "urn:d")) (plain [])) end_of-Member)) end_of-Value))
      [] end_of-Member))
      (more_of-Member (Member' (name (codes "urn:a")) (plain [])) end_of-Member)))
      (tt ∷ tt ∷ [])
      (more_of-Member (Member' lang_name (plain (codes "en"))) (more_of-Member (Member' (name (codes "urn:c")) (plain [])) end_of-Member)))
      ∷ Member' (name (codes "urn:e")) (plain [])
      ∷ Member' (name (codes "urn:d")) (plain [])
      ∷ [];
}

its_spaces : declared_spaces tree (record { first = 0; count = 3; note = None }) ≡ codes "urn:a" ∷ codes "urn:b" ∷ codes "urn:d" ∷ codes "urn:c" ∷ codes "urn:e" ∷ []
unfolding rdf_space xml_space meta_space lang_name
its_spaces = refl

-- ---- `<a:p xml:lang="en" c:p="1"><b:p>x</b:p> <rdf:li><a:p/></rdf:li></a:p>`

abbrev attribute : Name → List ℕ → Attribute
attribute name value = record { name = name; value = value }

-- the namespaces of an element by its parts, and of a text
spaces_are : (at : ℕ) (name : Name) (attributes : List Attribute) (children : List Child)
    → used_spaces (element at name attributes children) ≡ name.space ∷ (attribute_spaces attributes ++ flat_map (λ (inside : List (List ℕ)). inside) (map spaces_within children))
spaces_are at name attributes children =
    ap spaces_within (sym (views.rolls-Element (element at name attributes children)))
    ∙ fold-roll-Child (List (List ℕ)) (List (List ℕ)) child_spaces element_spaces (layer.Element (element at name attributes children))
    ∙ fold-roll-Element (List (List ℕ)) (List (List ℕ)) child_spaces element_spaces (record { at = at; name = name; attributes = attributes; children = children })

text_none : (text : List ℕ) → spaces_within (child.Text text) ≡ []
text_none text = ap spaces_within (sym (views.rolls-Text text)) ∙ fold-roll-Child (List (List ℕ)) (List (List ℕ)) child_spaces element_spaces (layer.Text text)

abbrev words : List ℕ → Child
words text = child.Text text

abbrev first : Element
first = element 1 (name (codes "urn:b")) [] (words (codes "x") ∷ [])

abbrev inner : Element
inner = element 3 (name (codes "urn:a")) [] []

abbrev second : Element
second = element 2 (rdf (codes "li")) [] (child.Element inner ∷ [])

abbrev whole : Element
whole =
    element 0 (name (codes "urn:a")) (attribute lang_name (codes "en") ∷ attribute (name (codes "urn:c")) (codes "1") ∷ [])
    (child.Element first ∷ words (codes " ") ∷ child.Element second ∷ [])

first_is : used_spaces first ≡ codes "urn:b" ∷ []
first_is =
    spaces_are 1 (name (codes "urn:b")) [] (words (codes "x") ∷ [])
    ∙ ap (λ (us : List (List ℕ)). codes "urn:b" ∷ (us ++ [])) (text_none (codes "x"))

second_is : used_spaces second ≡ rdf_space ∷ codes "urn:a" ∷ []
second_is =
    spaces_are 2 (rdf (codes "li")) [] (child.Element inner ∷ [])
    ∙ ap (λ (us : List (List ℕ)). rdf_space ∷ (us ++ [])) (spaces_are 3 (name (codes "urn:a")) [] [])

all_spaces : used_spaces whole ≡ codes "urn:a" ∷ xml_space ∷ codes "urn:c" ∷ codes "urn:b" ∷ rdf_space ∷ codes "urn:a" ∷ []
unfolding lang_name
all_spaces =
    spaces_are 0 (name (codes "urn:a")) (attribute lang_name (codes "en") ∷ attribute (name (codes "urn:c")) (codes "1") ∷ []) (child.Element first ∷ words (codes " ") ∷ child.Element second ∷ [])
    ∙ ap (λ (us : List (List ℕ)). codes "urn:a" ∷ xml_space ∷ codes "urn:c" ∷ (us ++ (spaces_within (words (codes " ")) ++ (used_spaces second ++ [])))) first_is
    ∙ ap (λ (us : List (List ℕ)). codes "urn:a" ∷ xml_space ∷ codes "urn:c" ∷ codes "urn:b" ∷ (us ++ (used_spaces second ++ []))) (text_none (codes " "))
    ∙ ap (λ (us : List (List ℕ)). codes "urn:a" ∷ xml_space ∷ codes "urn:c" ∷ codes "urn:b" ∷ (us ++ [])) second_is

first_spaces : first_uses whole ≡ codes "urn:a" ∷ codes "urn:c" ∷ codes "urn:b" ∷ rdf_space ∷ []
unfolding rdf_space xml_space
first_spaces = ap (λ (us : List (List ℕ)). fold with_text [] (filter (λ (space : List ℕ). not (bytes_eq space xml_space)) us)) all_spaces
