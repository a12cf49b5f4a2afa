-- A tree is sound where its events are.
use Rattle.std.proofs.Common.{◌≡◌, ◌↔◌, ℕ, List, [], ◌∷◌, ◌++◌, map, sym, subst}
use Rattle.std.specs.Prelude.{All}
use Rattle.std.proofs.lemmas.List.Elements.{All-nil, All-cons, All-head, All-tail}
use mathlib.Core.Former.{Count}
use Rattle.xmp_values.specs.Characters.{IsCharText}
use Rattle.xmp_values.specs.declared.text.Name.{Name}
use Rattle.xml_grammar.specs.declared.elements.Attribute.{Attribute}
use Rattle.xml_grammar.specs.declared.elements.Child.{Child, Child-F, Element', Text, roll-Child, ind-Child, map-Child, Row_of-Child, end_of-Child, more_of-Child, items-the_row-Child, items_hidden-the_row-Child-0}
use Rattle.xml_grammar.specs.declared.elements.Child.TheVariants as child
use Rattle.xml_grammar.specs.declared.elements.Child.TheFolds.{map-Element}
use Rattle.xml_grammar.specs.declared.elements.Child.TheViews.{roll-Element}
use Rattle.xml_grammar.specs.declared.elements.Child.TheViews as views
use Rattle.xml_grammar.specs.declared.elements.Child.TheOpen.{Element-F}
use Rattle.xml_grammar.specs.declared.elements.Child.TheOpen as layer
use Rattle.xml_grammar.specs.declared.elements.Element.{Element}
use Rattle.xml_grammar.specs.Trees.{Event, Opens, Words, Closes, joined, events}
use Rattle.xml_grammar.specs.Sound.{IsSoundName, AreSoundAttributes, IsSoundChild, AreSoundChildren, IsSound}
use Rattle.xml_grammar.proofs.TreeEvents.{element, element_is, text_is}

-- ---- rows and lists

of_children : (n : _) (row : Row_of-Child n) → AreSoundChildren row → All IsSoundChild (items-the_row-Child n row)
of_children n end_of-Child h = All-nil IsSoundChild
of_children n (more_of-Child c rest) h = All-cons IsSoundChild c _ h.0 (of_children _ rest h.1)

to_children : (n : _) (row : Row_of-Child n) → All IsSoundChild (items-the_row-Child n row) → AreSoundChildren row
to_children n end_of-Child h = tt
to_children n (more_of-Child c rest) h = (All-head IsSoundChild c _ h, to_children _ rest (All-tail IsSoundChild c _ h))

-- the row that a child holds
abbrev row_of : Child → (n : Count) × Row_of-Child n
row_of (Element' at name attributes n row) = (_, row)
row_of _ = (_, end_of-Child)

-- an element is sound where it is as a child
pub sound_child : (e : Element) → IsSoundChild (child.Element e) ↔ IsSound e
sound_child e =
    let row = row_of (child.Element e) in
    let same = items_hidden-the_row-Child-0 e.children in (
      λ h. record { named = h.0; attributed = h.1; filled = subst (All IsSoundChild) same (of_children row.0 row.1 h.2) },
      λ h. (h.named, h.attributed, to_children row.0 row.1 (subst (All IsSoundChild) (sym same) h.filled)),
    )

-- ---- events

abbrev pub IsSoundEvent : Event → Type 0
IsSoundEvent (Opens at name attributes) = IsSoundName name × AreSoundAttributes attributes
IsSoundEvent (Words text) = IsCharText text
IsSoundEvent Closes = Unit {0}

abbrev pub AreSoundEvents : List Event → Type 0
AreSoundEvents [] = Unit {0}
AreSoundEvents (e ∷ es) = IsSoundEvent e × AreSoundEvents es

front_sound : (es fs : List Event) → AreSoundEvents (es ++ fs) → AreSoundEvents es
front_sound [] fs h = tt
front_sound (e ∷ es) fs h = (h.0, front_sound es fs h.1)

back_sound : (es fs : List Event) → AreSoundEvents (es ++ fs) → AreSoundEvents fs
back_sound [] fs h = h
back_sound (e ∷ es) fs h = back_sound es fs h.1

abbrev Follows : Child → Type 0
Follows c = AreSoundEvents (events c) → IsSoundChild c

abbrev Following : Type 0
Following = (c : Child) × Follows c

abbrev FollowingElement : Type 0
FollowingElement = (e : Element) × Follows (child.Element e)

abbrev children_of : List Following → List Child
children_of cs = map (λ (e : Following). e.0) cs

all_follow : (cs : List Following) → AreSoundEvents (joined (map events (children_of cs))) → All IsSoundChild (children_of cs)
all_follow [] h = All-nil IsSoundChild
all_follow (c ∷ cs) h =
    let after : List Event = joined (map events (children_of cs)) in
    All-cons IsSoundChild c.0 (children_of cs) (c.1 (front_sound (events c.0) after h)) (all_follow cs (back_sound (events c.0) after h))

element_follows : (at : ℕ) (name : Name) (attributes : List Attribute) (cs : List Following) → Follows (child.Element (element at name attributes (children_of cs)))
element_follows at name attributes cs h =
    let k : AreSoundEvents (Opens at name attributes ∷ (joined (map events (children_of cs)) ++ Closes ∷ [])) = subst AreSoundEvents (element_is at name attributes (children_of cs)) h in
    let filled = all_follow cs (front_sound (joined (map events (children_of cs))) (Closes ∷ []) k.1) in
    (sound_child (element at name attributes (children_of cs))).1 (record { named = k.0.0; attributed = k.0.1; filled = filled })

text_follows : (t : List ℕ) → Follows (child.Text t)
text_follows t h = (subst AreSoundEvents (text_is t) h).0

child_step : (x : Child-F Child Element) (y : Child-F Following FollowingElement) → map-Child Following FollowingElement Child Element (λ e. e.0) (λ e. e.0) y ≡ x → Follows (roll-Child x)
child_step x (layer.Element e) is = subst (λ (z : Child-F Child Element). Follows (roll-Child z)) is (subst Follows (sym (views.rolls-Element e.0)) e.1)
child_step x (layer.Text t) is = subst (λ (z : Child-F Child Element). Follows (roll-Child z)) is (subst Follows (sym (views.rolls-Text t)) (text_follows t))

element_step : (x : Element-F Child Element) (y : Element-F Following FollowingElement) → map-Element Following FollowingElement Child Element (λ e. e.0) (λ e. e.0) y ≡ x → Follows (child.Element (roll-Element x))
element_step x y is = subst (λ (z : Element-F Child Element). Follows (child.Element (roll-Element z))) is (element_follows y.at y.name y.attributes y.children)

follows : (c : Child) → Follows c
follows = ind-Child Follows (λ e. Follows (child.Element e)) (λ x y is. child_step x y is) (λ x y is. element_step x y is)

pub sound_from_events : (e : Element) → AreSoundEvents (events (child.Element e)) → IsSound e
sound_from_events e h = (sound_child e).0 (follows (child.Element e) h)
