-- The element tree, as far as it is read.
use Rattle.std.specs.Prelude.{ℕ, Bool, true, false, List, [], ◌∷◌, ◌++◌, is_some, if◌then◌else◌, Option, Some, None, encode_utf8, length, drop}
use Rattle.std.specs.List.{filter_map}
use Rattle.xmp_values.specs.declared.hints.Hint.{Hint}
use Rattle.xml_grammar.specs.declared.elements.Child.{Child}
use Rattle.xml_grammar.specs.declared.elements.Child.TheVariants as child
use Rattle.xml_grammar.specs.declared.elements.Element.{Element, roll-Element}
use Rattle.xml_grammar.specs.declared.tags.Tag.{Tag}
use Rattle.xml_grammar.specs.Pieces.{Piece, Declaration, Instruction, Comment, Cdata, Start, End, Reference, LineEnd, Character}
use Rattle.xml_grammar.specs.Scopes.{Binding, predeclared, bindings_of, element_name, expanded_attributes}
use Rattle.xml_grammar.specs.Nesting.{Level, Nest}
use Rattle.xml_grammar.specs.Trees.{hint_of}
use Rattle.xmp_xml.specs.declared.builder.Frame.{Frame}
use Rattle.xmp_xml.specs.declared.builder.Builder.{Builder}

abbrev pub is_nil : {A : Type 0} → List A → Bool
is_nil [] = true
is_nil (x ∷ xs) = false

-- ---- the nest that is read in

-- the declarations in force; the scope holds them inside the root
abbrev pub bound_of : List Frame → List Binding → List Binding
bound_of [] scope = predeclared
bound_of (o ∷ os) scope = scope

-- the outermost frame is the document's
abbrev pub levels_of : Frame → List Frame → List Binding → List Level
levels_of f [] scope = []
levels_of f (o ∷ os) scope = record { name = f.spelled; bound = scope } ∷ levels_of o os (drop f.declared scope)

abbrev pub is_rooted : List Frame → Option Element → Bool
is_rooted [] root = is_some root
is_rooted (o ∷ os) root = true

abbrev pub nest_of : Builder → Nest
nest_of s = record { first = s.first; levels = levels_of s.top s.outer s.scope; rooted = is_rooted s.outer s.root }

-- ---- one step further

abbrev pub document : Frame
document = record { at = 0; spelled = record { prefix = None; local = [] }; name = record { space = []; local = [] }; attributes = []; declared = 0; children = [] }

-- the builder before anything is read
abbrev pub start : Builder
start = record { first = true; outer = []; top = document; text = []; root = None; hints = []; scope = [] }

abbrev pub element : Frame → Element
element f = roll-Element record { at = f.at; name = f.name; attributes = f.attributes; children = f.children }

abbrev pub with_child : Frame → Child → Frame
with_child f c = record { at = f.at; spelled = f.spelled; name = f.name; attributes = f.attributes; declared = f.declared; children = f.children ++ c ∷ [] }

-- the top with the text that is not yet a child
abbrev pub texted : Frame → List ℕ → Frame
texted f [] = f
texted f (b ∷ bs) = with_child f (child.Text (b ∷ bs))

abbrev pub flushed : Builder → Builder
flushed s = record { first = s.first; outer = s.outer; top = texted s.top s.text; text = []; root = s.root; hints = s.hints; scope = s.scope }

-- a piece without meaning is read
abbrev pub passed : Builder → Builder
passed s = record { first = false; outer = s.outer; top = s.top; text = s.text; root = s.root; hints = s.hints; scope = s.scope }

-- white space outside the root is no text
abbrev pub with_text : Builder → List ℕ → Builder
with_text s text = if is_nil s.outer then passed s else record { first = false; outer = s.outer; top = s.top; text = s.text ++ text; root = s.root; hints = s.hints; scope = s.scope }

-- the frame of a tag
abbrev pub frame : ℕ → Tag → List Binding → Frame
frame at tag bound = record { at = at; spelled = tag.name; name = element_name bound tag.name; attributes = expanded_attributes bound tag.attributes; declared = length (bindings_of tag.attributes); children = [] }

-- with these declarations in force
abbrev pub within : Builder → List Binding → Builder
within s inside = record { first = s.first; outer = s.outer; top = s.top; text = s.text; root = s.root; hints = s.hints; scope = inside }

-- an element more, inside which the builder's declarations are in force
abbrev pub with_frame : Builder → Frame → List Hint → Builder
with_frame s f hints = record { first = false; outer = texted s.top s.text ∷ s.outer; top = f; text = []; root = s.root; hints = s.hints ++ hints; scope = s.scope }

abbrev pub opened_in : Builder → ℕ → Tag → List Binding → Builder
opened_in s at tag inside = with_frame (within s inside) (frame at tag inside) (filter_map hint_of (bindings_of tag.attributes))

abbrev pub opened : Builder → ℕ → Tag → Builder
opened s at tag = opened_in s at tag (bindings_of tag.attributes ++ bound_of s.outer s.scope)

-- the innermost element is the root, and the document's frame is left
abbrev pub rooted : Builder → Frame → Builder
rooted s document = record { first = s.first; outer = s.outer; top = document; text = s.text; root = Some (element s.top); hints = s.hints; scope = s.scope }

-- the innermost element is a child of its parent, after which its declarations are no more in force
abbrev pub nested : Builder → Frame → Builder
nested s parent = record { first = s.first; outer = s.outer; top = with_child parent (child.Element (element s.top)); text = s.text; root = s.root; hints = s.hints; scope = drop s.top.declared s.scope }

abbrev pub popped : List Frame → Frame → Option Element → List Hint → List Binding → Builder
popped [] top root hints scope = record { first = false; outer = []; top = top; text = []; root = root; hints = hints; scope = scope }
popped (document ∷ []) top root hints scope = record { first = false; outer = []; top = document; text = []; root = Some (element top); hints = hints; scope = scope }
popped (parent ∷ o ∷ os) top root hints scope = record { first = false; outer = o ∷ os; top = with_child parent (child.Element (element top)); text = []; root = root; hints = hints; scope = drop top.declared scope }

abbrev pub closed : Builder → Builder
closed s = popped s.outer (texted s.top s.text) s.root s.hints s.scope

abbrev pub closed_if : Bool → Builder → Builder
closed_if true s = closed s
closed_if false s = s

-- the builder after a piece that breaks no rule
unfoldable pub after : Builder → ℕ → Piece → Builder
after s at (Declaration encoding) = passed s
after s at Instruction = passed s
after s at Comment = passed s
after s at (Cdata text) = with_text s text
after s at (Start tag) = closed_if tag.empty (opened s at tag)
after s at (End name) = closed s
after s at (Reference c) = with_text s (encode_utf8 c)
after s at LineEnd = with_text s (0xA ∷ [])
after s at (Character c) = with_text s (encode_utf8 c)
