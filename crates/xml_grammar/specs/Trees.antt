-- The element tree of nested pieces, as a list of what opens, is read and closes.
use Rattle.std.specs.Prelude.{ℕ, Bool, true, false, not, List, [], ◌∷◌, ◌++◌, encode_utf8, Option, Some, None}
use Rattle.std.specs.List.{filter, filter_map, flat_map}
use Rattle.std.specs.Str.{bytes_eq}
use Rattle.xmp_values.specs.declared.text.Name.{Name}
use Rattle.xmp_values.specs.declared.hints.Hint.{Hint}
use Rattle.xml_grammar.specs.declared.elements.Attribute.{Attribute}
use Rattle.xml_grammar.specs.declared.elements.Child.{Child, Child-F, fold-Child}
use Rattle.xml_grammar.specs.declared.elements.Child.TheOpen.{Element-F}
use Rattle.xml_grammar.specs.declared.elements.Child.TheOpen as layer
use Rattle.xml_grammar.specs.Pieces.{Piece, Declaration, Instruction, Comment, Cdata, Start, End, Reference, LineEnd, Character}
use Rattle.xml_grammar.specs.Scopes.{Binding, bindings_of, element_name, expanded_attributes}
use Rattle.xml_grammar.specs.Nesting.{Level, Nest, bound_at, enter}

-- a piece and its place
abbrev pub Placed : Type 0
Placed = ℕ × Piece

pub data Event : Type 0 where
  -- an element's place, its name and its attributes
  Opens : ℕ → Name → List Attribute → Event
  Words : List ℕ → Event
  Closes : Event

abbrev pub joined : List (List Event) → List Event
joined = flat_map (λ (es : List Event). es)

abbrev pub child_events : Child-F (List Event) (List Event) → List Event
child_events (layer.Element inside) = inside
child_events (layer.Text text) = Words text ∷ []

abbrev pub element_events : Element-F (List Event) (List Event) → List Event
element_events e = Opens e.at e.name e.attributes ∷ (joined e.children ++ Closes ∷ [])

-- a tree, from left to right
abbrev pub events : Child → List Event
events = fold-Child (List Event) (List Event) child_events element_events

-- Text before what follows it: texts that meet are one, and no text is made of nothing.
abbrev pub put : List ℕ → List Event → List Event
put [] es = es
put (b ∷ bs) [] = Words (b ∷ bs) ∷ []
put (b ∷ bs) (Opens at name attributes ∷ es) = Words (b ∷ bs) ∷ Opens at name attributes ∷ es
put (b ∷ bs) (Words text ∷ es) = Words (b ∷ (bs ++ text)) ∷ es
put (b ∷ bs) (Closes ∷ es) = Words (b ∷ bs) ∷ Closes ∷ es

-- white space outside the root is no text
abbrev pub put_inside : List Level → List ℕ → List Event → List Event
put_inside [] text es = es
put_inside (l ∷ ls) text es = put text es

abbrev pub closing : Bool → List Event → List Event
closing true es = Closes ∷ es
closing false es = es

-- what a piece is, before what follows it
abbrev pub piece_events : Nest → Placed → List Event → List Event
piece_events s (at, Declaration encoding) es = es
piece_events s (at, Instruction) es = es
piece_events s (at, Comment) es = es
piece_events s (at, Cdata text) es = put_inside s.levels text es
piece_events s (at, Start tag) es = Opens at (element_name (bound_at s tag) tag.name) (expanded_attributes (bound_at s tag) tag.attributes) ∷ closing tag.empty es
piece_events s (at, End name) es = Closes ∷ es
piece_events s (at, Reference c) es = put_inside s.levels (encode_utf8 c) es
piece_events s (at, LineEnd) es = put_inside s.levels (0xA ∷ []) es
piece_events s (at, Character c) es = put_inside s.levels (encode_utf8 c) es

-- what pieces are, from left to right
abbrev pub events_of : Nest → List Placed → List Event
events_of s [] = []
events_of s (p ∷ ps) = piece_events s p (events_of (enter s p.1) ps)

-- a declaration of a prefix is a hint, and one of the default is none
abbrev pub hint_at : Option (List ℕ) → List ℕ → Option Hint
hint_at None space = None
hint_at (Some prefix) space = Some (record { space = space; prefix = prefix })

abbrev pub hint_of : Binding → Option Hint
hint_of b = hint_at b.prefix b.space

abbrev pub piece_hints : Piece → List Hint
piece_hints (Start tag) = filter_map hint_of (bindings_of tag.attributes)
piece_hints piece = []

-- the declarations of prefixes, in the order of the text
abbrev pub all_hints : List Placed → List Hint
all_hints [] = []
all_hints (p ∷ ps) = piece_hints p.1 ++ all_hints ps

-- the first of each namespace
abbrev pub first_hints : List Hint → List Hint
first_hints [] = []
first_hints (h ∷ hs) = h ∷ filter (λ g. not (bytes_eq h.space g.space)) (first_hints hs)

abbrev pub hints_of : List Placed → List Hint
hints_of pieces = first_hints (all_hints pieces)
