-- How many elements of a tree stand inside one another.
use Rattle.std.specs.Prelude.{ℕ, ◌+◌, max, List, [], ◌∷◌}
use Rattle.xml_grammar.specs.declared.elements.Child.{Child, Child-F, fold-Child}
use Rattle.xml_grammar.specs.declared.elements.Child.TheVariants as child
use Rattle.xml_grammar.specs.declared.elements.Child.TheOpen.{Element-F}
use Rattle.xml_grammar.specs.declared.elements.Child.TheOpen as layer
use Rattle.xml_grammar.specs.declared.elements.Element.{Element}

abbrev pub greatest : List ℕ → ℕ
greatest [] = 0
greatest (n ∷ ns) = max n (greatest ns)

-- a text has none
abbrev pub child_height : Child-F ℕ ℕ → ℕ
child_height (layer.Element height) = height
child_height (layer.Text text) = 0

-- an element has one more than its highest child
abbrev pub element_height : Element-F ℕ ℕ → ℕ
element_height e = 1 + greatest e.children

abbrev pub height_of : Child → ℕ
height_of = fold-Child ℕ ℕ child_height element_height

-- an element without child elements has the height 1
abbrev pub height : Element → ℕ
height e = height_of (child.Element e)
