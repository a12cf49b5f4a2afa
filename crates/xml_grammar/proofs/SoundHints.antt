-- The hints of a document are valid, and its tree is sound.
use Rattle.std.proofs.Common.{◌≡◌, ◌≢◌, ℕ, ◌+◌, Bool, true, false, cond, not, List, [], ◌∷◌, Option, Some, None, refl, sym, ap, subst, ◌∙◌, arith}
use Rattle.std.specs.Prelude.{codes, All, AllPairs, if◌then◌else◌, chars}
use Rattle.std.specs.List.{list_any, filter, filter_map, cons_option}
use Rattle.std.specs.Str.{bytes_eq}
use Rattle.std.proofs.lemmas.List.Elements.{All-nil, All-cons, All-head, All-tail, All-append, All-filter}
use Rattle.std.proofs.lemmas.List.Kept.{AllPairs-cons, AllPairs-filter}
use Rattle.xmp_values.specs.Characters.{IsName}
use Rattle.xmp_values.specs.Hints.{IsValidHint, AreValid}
use Rattle.xmp_values.specs.declared.hints.Hint.{Hint}
use Rattle.xml_grammar.specs.declared.elements.Element.{Element}
use Rattle.xml_grammar.specs.declared.tags.RawAttribute.{RawAttribute}
use Rattle.xml_grammar.specs.Pieces.{Piece, Declaration, Instruction, Comment, Cdata, Start, End, Reference, LineEnd, Character, Spells}
use Rattle.xml_grammar.specs.Scopes.{Binding, binding_at, binding_of, bindings_of, is_misbound}
use Rattle.xml_grammar.specs.Nesting.{Nest, start, enter, broken}
use Rattle.xml_grammar.specs.Trees.{Placed, hint_at, hint_of, piece_hints, all_hints, first_hints, hints_of}
use Rattle.xml_grammar.specs.Documents.{width, mark_width, after_mark, Reads, IsDocument}
use Rattle.xml_grammar.specs.Sound.{IsSound}
use Rattle.xml_grammar.proofs.Splits.{not_both}
use Rattle.xml_grammar.proofs.Unbroken.{unbroken}
use Rattle.xml_grammar.proofs.SoundTrees.{AreSoundEvents, sound_from_events}
use Rattle.xml_grammar.proofs.SoundPieces.{IsSoundRaw, attributes_sound, IsSoundSpace, bindings_sound, neither, bytes_same, bound_some, events_sound}

-- ---- declarations of prefixes

-- a prefix that is declared is a name, and bound to something
abbrev IsNamedBinding : Binding → Type 0
IsNamedBinding b = IsSoundSpace b.space × ((p : List ℕ) → b.prefix ≡ Some p → IsName p × (b.space ≢ []))

-- what an attribute's declaration binds
abbrev Bound : List ℕ → Binding → Type 0
Bound local b = (p : List ℕ) → b.prefix ≡ Some p → p ≡ local

some_same : (p q : List ℕ) → Some p ≡ Some q → p ≡ q
some_same p q e = cc

prefix_same : (a b : Binding) → Some a ≡ Some b → a.prefix ≡ b.prefix
prefix_same a b e = let same : a ≡ b = cc in ap (λ (z : Binding). z.prefix) same

binding_prefix : (prefix : Option (List ℕ)) (local value : List ℕ) (b : Binding) → binding_at prefix local value ≡ Some b → Bound local b
binding_prefix None local value b e = by (bytes_eq local (codes "xmlns")) e
  where
    by : (test : Bool) → (if test then Some (record { prefix = None; space = value }) else None) ≡ Some b → Bound local b
    by true e = λ p is. let n : None ≡ Some p = prefix_same (record { prefix = None; space = value }) b e ∙ is in absurd cc
    by false e = absurd cc
binding_prefix (Some prefix) local value b e = by (bytes_eq prefix (codes "xmlns")) e
  where
    by : (test : Bool) → (if test then Some (record { prefix = Some local; space = value }) else None) ≡ Some b → Bound local b
    by true e = λ p is. some_same p local (sym (prefix_same (record { prefix = Some local; space = value }) b e ∙ is))
    by false e = absurd cc

misbound_some : (b : Binding) (p : List ℕ) → is_misbound b ≡ false → b.prefix ≡ Some p → b.space ≢ []
misbound_some b p f is = bound_some p b.space (ap (λ (z : Option (List ℕ)). is_misbound (record { prefix = z; space = b.space })) (sym is) ∙ f)

add_named : (o : Option Binding) (rest : List Binding) → ((b : Binding) → o ≡ Some b → (p : List ℕ) → b.prefix ≡ Some p → IsName p) → list_any is_misbound (cons_option o rest) ≡ false
    → All (λ (b : Binding). IsSoundSpace b.space) (cons_option o rest) → (list_any is_misbound rest ≡ false → All (λ (b : Binding). IsSoundSpace b.space) rest → All IsNamedBinding rest) → All IsNamedBinding (cons_option o rest)
add_named None rest named bad sound more = more bad sound
add_named (Some b) rest named bad sound more =
    let n = neither (is_misbound b) (list_any is_misbound rest) bad in
    All-cons IsNamedBinding b rest (All-head (λ (b : Binding). IsSoundSpace b.space) b rest sound, λ p is. (named b refl p is, misbound_some b p n.0 is)) (more n.1 (All-tail (λ (b : Binding). IsSoundSpace b.space) b rest sound))

bindings_named : (xs : List RawAttribute) → All IsSoundRaw xs → list_any is_misbound (bindings_of xs) ≡ false → All (λ (b : Binding). IsSoundSpace b.space) (bindings_of xs) → All IsNamedBinding (bindings_of xs)
bindings_named [] h bad sound = All-nil IsNamedBinding
bindings_named (x ∷ xs) h bad sound =
    add_named (binding_of x) (bindings_of xs)
    (λ b e p is. subst IsName (sym (binding_prefix x.name.prefix x.name.local x.value b e p is)) ((All-head IsSoundRaw x xs h).named))
    bad sound (λ b s. bindings_named xs (All-tail IsSoundRaw x xs h) b s)

hint_is : (a b : Hint) → Some a ≡ Some b → a ≡ b
hint_is a b e = cc

one_hint : (prefix : Option (List ℕ)) (space : List ℕ) → IsNamedBinding (record { prefix = prefix; space = space }) → (h : Hint) → hint_at prefix space ≡ Some h → IsValidHint h
one_hint None space b h e = absurd cc
one_hint (Some p) space b h e =
    let n = b.1 p refl in
    subst IsValidHint (hint_is (record { space = space; prefix = p }) h e) (record { spaced = n.1; chars = b.0.chars; bound = b.0.free; named = n.0 })

add_hint : (o : Option Hint) (rest : List Hint) → ((h : Hint) → o ≡ Some h → IsValidHint h) → All IsValidHint rest → All IsValidHint (cons_option o rest)
add_hint None rest valid more = more
add_hint (Some h) rest valid more = All-cons IsValidHint h rest (valid h refl) more

binding_hints : (bs : List Binding) → All IsNamedBinding bs → All IsValidHint (filter_map hint_of bs)
binding_hints [] h = All-nil IsValidHint
binding_hints (b ∷ bs) h = add_hint (hint_of b) (filter_map hint_of bs) (λ g e. one_hint b.prefix b.space (All-head IsNamedBinding b bs h) g e) (binding_hints bs (All-tail IsNamedBinding b bs h))

-- ---- hints of pieces

piece_valid : (s : Nest) (p : Piece) (front : List ℕ) → Spells p front → broken s p ≡ None → All IsValidHint (piece_hints p)
piece_valid s (Declaration encoding) front h good = All-nil IsValidHint
piece_valid s Instruction front h good = All-nil IsValidHint
piece_valid s Comment front h good = All-nil IsValidHint
piece_valid s (Cdata text) front h good = All-nil IsValidHint
piece_valid s (Start tag) front (name, inside, gap, hn, hi, hg, at) good =
    let u = unbroken s (Start tag) good in
    let raw = attributes_sound tag.attributes inside hi in
    binding_hints (bindings_of tag.attributes) (bindings_named tag.attributes raw u.binds (bindings_sound tag.attributes raw u.binds))
piece_valid s (End name) front h good = All-nil IsValidHint
piece_valid s (Reference c) front h good = All-nil IsValidHint
piece_valid s LineEnd front h good = All-nil IsValidHint
piece_valid s (Character c) front h good = All-nil IsValidHint

all_valid : (s : Nest) (at : ℕ) (ps : List Placed) (text left : List ℕ) → Reads s at ps text left → All IsValidHint (all_hints ps)
all_valid s at [] text left h = All-nil IsValidHint
all_valid s at (p ∷ ps) text left (place, front, back, stands, good, more, is) =
    All-append IsValidHint (piece_hints p.1) (all_hints ps) (piece_valid s p.1 front stands.spelled good) (all_valid (enter s p.1) (at + width front) ps back left more)

abbrev other_space : Hint → Hint → Bool
other_space h g = not (bytes_eq h.space g.space)

abbrev Differ : Hint → Hint → Type 0
Differ g h = g.space ≢ h.space

kept_differ : (h : Hint) (gs : List Hint) → All (Differ h) (filter (other_space h) gs)
kept_differ h [] = All-nil (Differ h)
kept_differ h (g ∷ gs) = chosen (bytes_eq h.space g.space) refl (kept_differ h gs)
  where
    chosen : (b : Bool) → bytes_eq h.space g.space ≡ b → All (Differ h) (filter (other_space h) gs) → All (Differ h) (cond (not b) (g ∷ filter (other_space h) gs) (filter (other_space h) gs))
    chosen true e more = more
    chosen false e more = All-cons (Differ h) g (filter (other_space h) gs) (λ same. not_both (bytes_eq h.space g.space) (bytes_same h.space g.space same) e) more

first_valid : (hs : List Hint) → All IsValidHint hs → All IsValidHint (first_hints hs)
first_valid [] h = All-nil IsValidHint
first_valid (x ∷ xs) h =
    All-cons IsValidHint x (filter (other_space x) (first_hints xs)) (All-head IsValidHint x xs h)
    (All-filter (other_space x) IsValidHint (first_hints xs) (first_valid xs (All-tail IsValidHint x xs h)))

first_apart : (hs : List Hint) → AllPairs Differ (first_hints hs)
first_apart [] = λ i j d below within. absurd (omega arith)
first_apart (x ∷ xs) = AllPairs-cons Differ x (filter (other_space x) (first_hints xs)) (kept_differ x (first_hints xs)) (AllPairs-filter Differ (other_space x) (first_hints xs) (first_apart xs))

hints_valid : (s : Nest) (at : ℕ) (ps : List Placed) (text left : List ℕ) → Reads s at ps text left → AreValid (hints_of ps)
hints_valid s at ps text left h = record { apart = first_apart (all_hints ps); each = first_valid (all_hints ps) (all_valid s at ps text left h) }

-- ---- documents

pub document_sound : (text : List ℕ) (root : Element) (hints : List Hint) → IsDocument text root hints → IsSound root × AreValid hints
document_sound text root hints d =
    let sound = events_sound start (mark_width (chars text)) d.pieces (after_mark (chars text)) [] tt d.read in
    let valid = hints_valid start (mark_width (chars text)) d.pieces (after_mark (chars text)) [] d.read in
    (sound_from_events root (subst AreSoundEvents d.tree sound), subst AreValid (sym d.hinted) valid)
