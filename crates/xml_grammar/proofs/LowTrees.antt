-- No element of a document is deeper than 100.
use Rattle.std.proofs.Common.{◌≡◌, ℕ, ◌+◌, ◌-◌, ◌<◌, ◌≤◌, max, Bool, true, false, List, [], ◌∷◌, ◌++◌, length, map, None, refl, sym, ap, subst, ◌∙◌, append_assoc, arith}
use Rattle.std.specs.Prelude.{chars, encode_utf8, nat_le}
use Rattle.std.proofs.lemmas.Bool.Decides.{nat_tests}
use Rattle.std.proofs.lemmas.List.{append-nil}
use Rattle.xmp_values.specs.declared.hints.Hint.{Hint}
use Rattle.xmp_values.specs.declared.text.Name.{Name}
use Rattle.xml_grammar.specs.declared.elements.Attribute.{Attribute}
use Rattle.xml_grammar.specs.declared.elements.Child.{Child, Child-F, roll-Child, fold-roll-Child, ind-Child, map-Child}
use Rattle.xml_grammar.specs.declared.elements.Child.TheVariants as child
use Rattle.xml_grammar.specs.declared.elements.Child.TheFolds.{fold-roll-Element, map-Element}
use Rattle.xml_grammar.specs.declared.elements.Child.TheViews.{roll-Element}
use Rattle.xml_grammar.specs.declared.elements.Child.TheViews as views
use Rattle.xml_grammar.specs.declared.elements.Child.TheOpen.{Element-F}
use Rattle.xml_grammar.specs.declared.elements.Child.TheOpen as layer
use Rattle.xml_grammar.specs.declared.elements.Element.{Element}
use Rattle.xml_grammar.specs.Pieces.{Piece, Declaration, Instruction, Comment, Cdata, Start, End, Reference, LineEnd, Character}
use Rattle.xml_grammar.specs.Nesting.{Level, Nest, start, outer, opened, enter, broken}
use Rattle.xml_grammar.specs.Trees.{Placed, Event, Opens, Words, Closes, joined, events, put, put_inside, closing, piece_events, events_of}
use Rattle.xml_grammar.specs.Documents.{width, mark_width, after_mark, Reads, IsDocument}
use Rattle.xml_grammar.specs.Heights.{greatest, child_height, element_height, height_of, height}
use Rattle.xml_grammar.proofs.Unbroken.{unbroken}
use Rattle.xml_grammar.proofs.TreeEvents.{element, element_is, text_is}

-- ---- the equations of heights

pub element_high : (at : ℕ) (name : Name) (attributes : List Attribute) (children : List Child) → height_of (child.Element (element at name attributes children)) ≡ 1 + greatest (map height_of children)
element_high at name attributes children =
    ap height_of (sym (views.rolls-Element (element at name attributes children)))
    ∙ fold-roll-Child ℕ ℕ child_height element_height (layer.Element (element at name attributes children))
    ∙ fold-roll-Element ℕ ℕ child_height element_height (record { at = at; name = name; attributes = attributes; children = children })

pub text_high : (t : List ℕ) → height_of (child.Text t) ≡ 0
text_high t = ap height_of (sym (views.rolls-Text t)) ∙ fold-roll-Child ℕ ℕ child_height element_height (layer.Text t)

-- ---- events that open nothing below a depth of 100

abbrev pub IsShallow : ℕ → List Event → Type 0
IsShallow depth [] = Unit {0}
IsShallow depth (Opens at name attributes ∷ es) = (depth < 100) × IsShallow (depth + 1) es
IsShallow depth (Words text ∷ es) = IsShallow depth es
IsShallow depth (Closes ∷ es) = IsShallow (depth - 1) es

-- a child at a depth, whose events are followed by others
abbrev Fits : Child → Type 0
Fits c = (depth : ℕ) (more : List Event) → depth ≤ 100 → IsShallow depth (events c ++ more) → (depth + height_of c ≤ 100) × IsShallow depth more

abbrev Fitting : Type 0
Fitting = (c : Child) × Fits c

abbrev FittingElement : Type 0
FittingElement = (e : Element) × Fits (child.Element e)

abbrev children_of : List Fitting → List Child
children_of cs = map (λ (c : Fitting). c.0) cs

greatest_within : (m n bound depth : ℕ) → depth + m ≤ bound → depth + n ≤ bound → depth + max m n ≤ bound
greatest_within m n bound depth h k = omega arith

all_fit : (cs : List Fitting) (depth : ℕ) (more : List Event) → depth ≤ 100 → IsShallow depth (joined (map events (children_of cs)) ++ more) → (depth + greatest (map height_of (children_of cs)) ≤ 100) × IsShallow depth more
all_fit [] depth more low h = (omega arith, h)
all_fit (c ∷ cs) depth more low h =
    let after : List Event = joined (map events (children_of cs)) in
    let one = c.1 depth (after ++ more) low (subst (IsShallow depth) (append_assoc (events c.0) after more) h) in
    let rest = all_fit cs depth more low one.1 in
    (greatest_within (height_of c.0) (greatest (map height_of (children_of cs))) 100 depth one.0 rest.0, rest.1)

text_fits : (t : List ℕ) → Fits (child.Text t)
text_fits t depth more low h =
    let flat = text_high t in
    (omega arith, subst (λ (es : List Event). IsShallow depth (es ++ more)) (text_is t) h)

element_fits : (at : ℕ) (name : Name) (attributes : List Attribute) (cs : List Fitting) → Fits (child.Element (element at name attributes (children_of cs)))
element_fits at name attributes cs depth more low h =
    let inside : List Event = joined (map events (children_of cs)) in
    let k : IsShallow depth ((Opens at name attributes ∷ (inside ++ Closes ∷ [])) ++ more) = subst (λ (es : List Event). IsShallow depth (es ++ more)) (element_is at name attributes (children_of cs)) h in
    let below = k.0 in
    let rest = all_fit cs (depth + 1) (Closes ∷ more) (omega arith) (subst (IsShallow (depth + 1)) (append_assoc inside (Closes ∷ []) more) k.1) in
    let high = rest.0 in
    let is = element_high at name attributes (children_of cs) in
    let back : depth + 1 - 1 ≡ depth = omega arith in
    (omega arith, subst (λ (n : ℕ). IsShallow n more) back rest.1)

child_step : (x : Child-F Child Element) (y : Child-F Fitting FittingElement) → map-Child Fitting FittingElement Child Element (λ e. e.0) (λ e. e.0) y ≡ x → Fits (roll-Child x)
child_step x (layer.Element e) is = subst (λ (z : Child-F Child Element). Fits (roll-Child z)) is (subst Fits (sym (views.rolls-Element e.0)) e.1)
child_step x (layer.Text t) is = subst (λ (z : Child-F Child Element). Fits (roll-Child z)) is (subst Fits (sym (views.rolls-Text t)) (text_fits t))

element_step : (x : Element-F Child Element) (y : Element-F Fitting FittingElement) → map-Element Fitting FittingElement Child Element (λ e. e.0) (λ e. e.0) y ≡ x → Fits (child.Element (roll-Element x))
element_step x y is = subst (λ (z : Element-F Child Element). Fits (child.Element (roll-Element z))) is (element_fits y.at y.name y.attributes y.children)

fits : (c : Child) → Fits c
fits = ind-Child Fits (λ e. Fits (child.Element e)) (λ x y is. child_step x y is) (λ x y is. element_step x y is)

-- ---- pieces

put_shallow : (depth : ℕ) (text : List ℕ) (es : List Event) → IsShallow depth es → IsShallow depth (put text es)
put_shallow depth [] es h = h
put_shallow depth (b ∷ bs) [] h = tt
put_shallow depth (b ∷ bs) (Opens at name attributes ∷ es) h = h
put_shallow depth (b ∷ bs) (Words text ∷ es) h = h
put_shallow depth (b ∷ bs) (Closes ∷ es) h = h

inside_shallow : (ls : List Level) (depth : ℕ) (text : List ℕ) (es : List Event) → IsShallow depth es → IsShallow depth (put_inside ls text es)
inside_shallow [] depth text es h = h
inside_shallow (l ∷ ls) depth text es h = put_shallow depth text es h

outer_length : (ls : List Level) → length (outer ls) ≡ length ls - 1
outer_length [] = refl
outer_length (l ∷ ls) = omega arith

not_deep : (n : ℕ) → nat_le 100 n ≡ false → n < 100
not_deep n e = grind (arith, nat_tests)

opens : (empty : Bool) (level : Level) (ls : List Level) (es : List Event) → IsShallow (length (opened empty level ls)) es → IsShallow (length ls + 1) (closing empty es)
opens true level ls es h = let back : length ls ≡ length ls + 1 - 1 = omega arith in subst (λ (n : ℕ). IsShallow n es) back h
opens false level ls es h = let more : length (level ∷ ls) ≡ length ls + 1 = omega arith in subst (λ (n : ℕ). IsShallow n es) more h

piece_shallow : (s : Nest) (at : ℕ) (p : Piece) (es : List Event) → broken s p ≡ None → IsShallow (length (enter s p).levels) es → IsShallow (length s.levels) (piece_events s (at, p) es)
piece_shallow s at (Declaration encoding) es good h = h
piece_shallow s at Instruction es good h = h
piece_shallow s at Comment es good h = h
piece_shallow s at (Cdata text) es good h = inside_shallow s.levels (length s.levels) text es h
piece_shallow s at (Start tag) es good h = (not_deep (length s.levels) (unbroken s (Start tag) good).shallow, opens tag.empty _ s.levels es h)
piece_shallow s at (End name) es good h = subst (λ (n : ℕ). IsShallow n es) (outer_length s.levels) h
piece_shallow s at (Reference c) es good h = inside_shallow s.levels (length s.levels) (encode_utf8 c) es h
piece_shallow s at LineEnd es good h = inside_shallow s.levels (length s.levels) (0xA ∷ []) es h
piece_shallow s at (Character c) es good h = inside_shallow s.levels (length s.levels) (encode_utf8 c) es h

pieces_shallow : (s : Nest) (at : ℕ) (ps : List Placed) (text left : List ℕ) → Reads s at ps text left → IsShallow (length s.levels) (events_of s ps)
pieces_shallow s at [] text left h = tt
pieces_shallow s at (p ∷ ps) text left (place, front, back, stands, good, more, is) =
    piece_shallow s p.0 p.1 (events_of (enter s p.1) ps) good (pieces_shallow (enter s p.1) (at + width front) ps back left more)

pub low_document : (text : List ℕ) (root : Element) (hints : List Hint) → IsDocument text root hints → height root ≤ 100
low_document text root hints d =
    let h = pieces_shallow start (mark_width (chars text)) d.pieces (after_mark (chars text)) [] d.read in
    let k : IsShallow 0 (events (child.Element root) ++ []) = subst (IsShallow 0) (d.tree ∙ sym (append-nil (events (child.Element root)))) h in
    let low = (fits (child.Element root) 0 [] (omega arith) k).0 in
    omega arith

-- ---- children

-- every child is lower than a number
abbrev pub AreLower : ℕ → List Child → Type 0
AreLower n [] = Unit {0}
AreLower n (c ∷ cs) = (height_of c < n) × AreLower n cs

all_lower : (n : ℕ) (cs : List Child) → greatest (map height_of cs) < n → AreLower n cs
all_lower n [] h = tt
all_lower n (c ∷ cs) h = (omega arith, all_lower n cs (omega arith))

-- the children of an element are lower than it
pub children_lower : (e : Element) → AreLower (height e) e.children
children_lower e =
    let is = element_high e.at e.name e.attributes e.children in
    all_lower (height e) e.children (omega arith)
