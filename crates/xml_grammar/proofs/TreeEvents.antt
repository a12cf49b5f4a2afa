-- Trees with the same events are the same: going through the events of a tree makes the tree.
use Rattle.std.proofs.Common.{◌≡◌, ℕ, List, [], ◌∷◌, ◌++◌, map, sym, ap, subst, ◌∙◌, append_assoc}
use Rattle.std.proofs.lemmas.List.{append-nil}
use Rattle.xmp_values.specs.declared.text.Name.{Name}
use Rattle.xml_grammar.specs.declared.elements.Attribute.{Attribute}
use Rattle.xml_grammar.specs.declared.elements.Child.{Child, Child-F, roll-Child, out-Child, fold-roll-Child, ind-Child, map-Child}
use Rattle.xml_grammar.specs.declared.elements.Child.TheVariants as child
use Rattle.xml_grammar.specs.declared.elements.Child.TheFolds.{fold-roll-Element, map-Element}
use Rattle.xml_grammar.specs.declared.elements.Child.TheViews.{roll-Element}
use Rattle.xml_grammar.specs.declared.elements.Child.TheViews as views
use Rattle.xml_grammar.specs.declared.elements.Child.TheOpen.{Element-F}
use Rattle.xml_grammar.specs.declared.elements.Child.TheOpen as layer
use Rattle.xml_grammar.specs.declared.elements.Element.{Element}
use Rattle.xml_grammar.specs.Trees.{Event, Opens, Words, Closes, joined, child_events, element_events, events}

-- ---- the equations of events

-- an element of its parts
abbrev pub element : ℕ → Name → List Attribute → List Child → Element
element at name attributes children = roll-Element (record { at = at; name = name; attributes = attributes; children = children })

pub element_is : (at : ℕ) (name : Name) (attributes : List Attribute) (children : List Child)
    → events (child.Element (element at name attributes children)) ≡ Opens at name attributes ∷ (joined (map events children) ++ Closes ∷ [])
element_is at name attributes children =
    ap events (sym (views.rolls-Element (element at name attributes children)))
    ∙ fold-roll-Child (List Event) (List Event) child_events element_events (layer.Element (element at name attributes children))
    ∙ fold-roll-Element (List Event) (List Event) child_events element_events (record { at = at; name = name; attributes = attributes; children = children })

pub text_is : (t : List ℕ) → events (child.Text t) ≡ Words t ∷ []
text_is t = ap events (sym (views.rolls-Text t)) ∙ fold-roll-Child (List Event) (List Event) child_events element_events (layer.Text t)

-- ---- one event further

-- an element that is open, with the children that it has so far
record Frame : Type 0 where
  at : ℕ
  name : Name
  attributes : List Attribute
  children : List Child

abbrev with_children : Frame → List Child → Frame
with_children f cs = record { at = f.at; name = f.name; attributes = f.attributes; children = f.children ++ cs }

-- the innermost open element and those around it
abbrev State : Type 0
State = Frame × List Frame

abbrev shut : Frame → List Frame → State
shut f [] = (f, [])
shut f (o ∷ os) = (with_children o (child.Element (element f.at f.name f.attributes f.children) ∷ []), os)

abbrev apply : State → Event → State
apply (top, outer) (Opens at name attributes) = (record { at = at; name = name; attributes = attributes; children = [] }, top ∷ outer)
apply (top, outer) (Words text) = (with_children top (child.Text text ∷ []), outer)
apply (top, outer) Closes = shut top outer

abbrev build : State → List Event → State
build s [] = s
build s (e ∷ es) = build (apply s e) es

-- going through the events of a child adds the child
abbrev Adds : Child → Type 0
Adds c = (top : Frame) (outer : List Frame) (more : List Event) → build (top, outer) (events c ++ more) ≡ build (with_children top (c ∷ []), outer) more

-- a child, and that its events add it
abbrev Added : Type 0
Added = (c : Child) × Adds c

abbrev AddedElement : Type 0
AddedElement = (e : Element) × Adds (child.Element e)

abbrev children_of : List Added → List Child
children_of cs = map (λ (e : Added). e.0) cs

all_add : (cs : List Added) (top : Frame) (outer : List Frame) (more : List Event)
    → build (top, outer) (joined (map events (children_of cs)) ++ more) ≡ build (with_children top (children_of cs), outer) more
all_add [] top outer more = ap (λ (cs : List Child). build (record { at = top.at; name = top.name; attributes = top.attributes; children = cs }, outer) more) (sym (append-nil top.children))
all_add (c ∷ cs) top outer more =
    let after : List Event = joined (map events (children_of cs)) in
    ap (build (top, outer)) (append_assoc (events c.0) after more)
    ∙ c.1 top outer (after ++ more)
    ∙ all_add cs (with_children top (c.0 ∷ [])) outer more
    ∙ ap (λ (cs : List Child). build (record { at = top.at; name = top.name; attributes = top.attributes; children = cs }, outer) more) (append_assoc top.children (c.0 ∷ []) (children_of cs))

text_adds : (t : List ℕ) → Adds (child.Text t)
text_adds t top outer more = ap (λ (es : List Event). build (top, outer) (es ++ more)) (text_is t)

element_adds : (at : ℕ) (name : Name) (attributes : List Attribute) (cs : List Added) → Adds (child.Element (element at name attributes (children_of cs)))
element_adds at name attributes cs top outer more =
    let inside : List Event = joined (map events (children_of cs)) in
    let fresh : Frame = record { at = at; name = name; attributes = attributes; children = [] } in
    ap (λ (es : List Event). build (top, outer) (es ++ more)) (element_is at name attributes (children_of cs))
    ∙ ap (build (fresh, top ∷ outer)) (append_assoc inside (Closes ∷ []) more)
    ∙ all_add cs fresh (top ∷ outer) (Closes ∷ more)

child_step : (x : Child-F Child Element) (y : Child-F Added AddedElement) → map-Child Added AddedElement Child Element (λ e. e.0) (λ e. e.0) y ≡ x → Adds (roll-Child x)
child_step x (layer.Element e) is = subst (λ (z : Child-F Child Element). Adds (roll-Child z)) is (subst Adds (sym (views.rolls-Element e.0)) e.1)
child_step x (layer.Text t) is = subst (λ (z : Child-F Child Element). Adds (roll-Child z)) is (subst Adds (sym (views.rolls-Text t)) (text_adds t))

element_step : (x : Element-F Child Element) (y : Element-F Added AddedElement) → map-Element Added AddedElement Child Element (λ e. e.0) (λ e. e.0) y ≡ x → Adds (child.Element (roll-Element x))
element_step x y is = subst (λ (z : Element-F Child Element). Adds (child.Element (roll-Element z))) is (element_adds y.at y.name y.attributes y.children)

adds : (c : Child) → Adds c
adds = ind-Child Adds (λ e. Adds (child.Element e)) (λ x y is. child_step x y is) (λ x y is. element_step x y is)

empty_frame : Frame
empty_frame = record { at = 0; name = record { space = []; local = [] }; attributes = []; children = [] }

first_child : List Child → Child → Child
first_child [] c = c
first_child (c ∷ cs) d = c

pub same_child : (c d : Child) → events c ≡ events d → c ≡ d
unfolding empty_frame first_child
same_child c d e =
    let p : build (empty_frame, []) (events c ++ []) ≡ build (empty_frame, []) (events d ++ []) = ap (λ (es : List Event). build (empty_frame, []) (es ++ [])) e in
    let q : (with_children empty_frame (c ∷ []), []) ≡ (with_children empty_frame (d ∷ []), []) = sym (adds c empty_frame [] []) ∙ p ∙ adds d empty_frame [] [] in
    ap (λ (s : State). first_child s.0.children c) q

element_in : Element → Child-F Child Element → Element
element_in f (layer.Element e) = e
element_in f (layer.Text t) = f

pub same_element : (e f : Element) → events (child.Element e) ≡ events (child.Element f) → e ≡ f
unfolding element_in
same_element e f h =
    let s : child.Element e ≡ child.Element f = same_child (child.Element e) (child.Element f) h in
    ap (element_in f) (sym (views.outs-Element e) ∙ ap out-Child s ∙ views.outs-Element f)
