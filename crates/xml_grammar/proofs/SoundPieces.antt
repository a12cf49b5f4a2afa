-- What pieces that break no rule stand for is sound.
use Rattle.std.proofs.Common.{◌≡◌, ◌≢◌, ℕ, ◌+◌, Bool, true, false, cond, not, ◌&&◌, ◌||◌, List, [], ◌∷◌, ◌++◌, map, Option, Some, None, refl, sym, ap, subst, ◌∙◌, append-nil, inl, inr, arith}
use Rattle.std.specs.Prelude.{IsTrue, codes, All, AllPairs, encode_utf8, encode_utf8_all, is_none, if◌then◌else◌, ◌==◌}
use Rattle.std.specs.List.{list_all, list_any, cons_option}
use Rattle.std.specs.Str.{bytes_eq}
use lib.Utf8.{encode}
use Rattle.std.proofs.lemmas.Str.{encodes-append}
use Rattle.std.proofs.lemmas.Slice.Eq.{bytes_eq-Decides}
use Rattle.std.proofs.lemmas.List.Elements.{All-nil, All-cons, All-head, All-tail, All-append}
use Rattle.std.proofs.lemmas.List.Kept.{AllPairs-cons}
use Rattle.std.proofs.lemmas.List.Sums.{AllPass-from_list_all}
use Rattle.xmp_values.specs.Characters.{is_char, is_blank, IsCharText, IsName}
use Rattle.xmp_values.specs.Hints.{xmlns_space}
use Rattle.xml_grammar.specs.declared.elements.Attribute.{Attribute}
use Rattle.xml_grammar.specs.declared.tags.RawAttribute.{RawAttribute}
use Rattle.xml_grammar.specs.declared.tags.Tag.{Tag}
use Rattle.xml_grammar.specs.Spelling.{AreChars, SpellsPrefixed, Entity, Lt, Gt, Amp, Apos, Quot, entity_char, SpellsReference, line_ends_after, line_ends, normal, SpellsValueChar, SpellsValueChars, SpellsAttribute, SpellsAttributes}
use Rattle.xml_grammar.specs.Pieces.{Piece, Declaration, Instruction, Comment, Cdata, Start, End, Reference, LineEnd, Character, Spells}
use Rattle.xmp_values.specs.Names.{same_name}
use Rattle.xmp_values.proofs.SameNames.{same_name_is}
use Rattle.xml_grammar.specs.Scopes.{xml_space, Binding, binding_at, binding_of, bindings_of, plain_attributes, same_prefix, bound_to, or_nothing, element_name, attribute_space, expanded, expanded_attributes, is_reserved, is_misbound_to, is_misbound, same_qname}
use Rattle.xml_grammar.specs.Nesting.{Level, Nest, bound_in, bound_at, outer, opened, enter, has_twice, broken}
use Rattle.xml_grammar.specs.Trees.{Placed, Event, Opens, Words, Closes, put, put_inside, closing, piece_events, events_of}
use Rattle.xml_grammar.specs.Documents.{width, Reads}
use Rattle.xml_grammar.specs.Sound.{IsSoundName, IsSoundAttribute, AreSoundAttributes}
use Rattle.xml_grammar.proofs.Splits.{all_head, all_tail, all_cons, not_both}
use Rattle.xml_grammar.proofs.Unbroken.{unbroken}
use Rattle.xml_grammar.proofs.SoundTrees.{AreSoundEvents}

-- ---- texts

pub char_text : (cs : List ℕ) → AreChars cs → IsCharText (encode_utf8_all cs)
char_text cs h = (cs, refl, AllPass-from_list_all is_char cs h)

pub no_text : IsCharText []
no_text = char_text [] refl

pub text_append : (a b : List ℕ) → IsCharText a → IsCharText b → IsCharText (a ++ b)
text_append a b (cs, is, h) (ds, at, k) =
    (cs ++ ds, (λ i. is i ++ at i) ∙ sym (encodes-append cs ds), All-append (λ c. IsTrue (is_char c)) cs ds h k)

one_char : (c : ℕ) → is_char c ≡ true → IsCharText (encode_utf8 c)
one_char c h = subst IsCharText (append-nil (encode_utf8 c)) (char_text (c ∷ []) (all_cons is_char c [] h refl))

entity_chars : (e : Entity) → is_char (entity_char e) ≡ true
unfolding is_char
entity_chars Lt = refl
entity_chars Gt = refl
entity_chars Amp = refl
entity_chars Apos = refl
entity_chars Quot = refl

pub reference_char : (c : ℕ) (text : List ℕ) → SpellsReference c text → is_char c ≡ true
reference_char c text (inl (e, is, at)) = ap is_char is ∙ entity_chars e
reference_char c text (inr (inl (digits, some, all, is, char, at))) = char
reference_char c text (inr (inr (digits, some, all, is, char, at))) = char

blank_chars : (is_char 0x20 ≡ true) × (is_char 0xA ≡ true)
unfolding is_char
blank_chars = (refl, refl)

chosen_char : (b : Bool) (c : ℕ) → is_char c ≡ true → is_char (cond b 0x20 c) ≡ true
chosen_char true c h = blank_chars.0
chosen_char false c h = h

normal_char : (c : ℕ) → is_char c ≡ true → is_char (normal c) ≡ true
normal_char c h = chosen_char (is_blank c) c h

value_char : (quote v : ℕ) (text : List ℕ) → SpellsValueChar quote v text → is_char v ≡ true
value_char quote v text (inl h) = reference_char v text h
value_char quote v text (inr (c, char, less, amp, other, is, at)) = ap is_char is ∙ normal_char c char

value_chars : (quote : ℕ) (vs text : List ℕ) → SpellsValueChars quote vs text → AreChars vs
value_chars quote [] text h = refl
value_chars quote (v ∷ vs) text (front, back, one, more, is) = all_cons is_char v vs (value_char quote v front one) (value_chars quote vs back more)

abbrev EndsRest : ℕ → List ℕ → Bool → Bool → Type 0
EndsRest c cs b d = AreChars (if b then 0xA ∷ line_ends_after true cs else if d then line_ends_after false cs else c ∷ line_ends_after false cs)

ends_chars : (after_cr : Bool) (cs : List ℕ) → AreChars cs → AreChars (line_ends_after after_cr cs)
ends_chars after_cr [] h = refl
ends_chars after_cr (c ∷ cs) h = chosen (c == 0xD) (after_cr && c == 0xA) (λ after. ends_chars after cs (all_tail is_char c cs h))
  where
    chosen : (b d : Bool) → ((after : Bool) → AreChars (line_ends_after after cs)) → EndsRest c cs b d
    chosen true d more = all_cons is_char 0xA (line_ends_after true cs) blank_chars.1 (more true)
    chosen false true more = more false
    chosen false false more = all_cons is_char c (line_ends_after false cs) (all_head is_char c cs h) (more false)

-- ---- attributes and declarations

-- what is known of an attribute by its spelling
pub record IsSoundRaw (a : RawAttribute) : Type 0 where
  pub named : IsName a.name.local
  pub chars : IsCharText a.value

local_name : (prefix : Option (List ℕ)) (local text : List ℕ) → SpellsPrefixed prefix local text → IsName local
local_name None local text (named, e) = (text, e, named)
local_name (Some prefix) local text (front, back, (named, e), (named', e'), is) = (back, e', named')

attribute_sound : (a : RawAttribute) (text : List ℕ) → SpellsAttribute a text → IsSoundRaw a
attribute_sound a text (name, equals, value, hn, he, (quote, inside, vs, hq, hv, is, at'), at) = record {
  named = local_name a.name.prefix a.name.local name hn;
  chars = subst IsCharText (sym is) (char_text vs (value_chars quote vs (line_ends inside) hv));
}

pub attributes_sound : (xs : List RawAttribute) (text : List ℕ) → SpellsAttributes xs text → All IsSoundRaw xs
attributes_sound [] text h = All-nil IsSoundRaw
attributes_sound (x ∷ xs) text (gap, front, back, hg, hf, hb, at) = All-cons IsSoundRaw x xs (attribute_sound x front hf) (attributes_sound xs back hb)

-- what is bound is made of Chars and isn't the namespace of `xmlns`
pub record IsSoundSpace (space : List ℕ) : Type 0 where
  pub chars : IsCharText space
  pub free : space ≢ xmlns_space

abbrev pub IsSoundBinding : Binding → Type 0
IsSoundBinding b = IsSoundSpace b.space

pub neither : (a b : Bool) → (a || b) ≡ false → (a ≡ false) × (b ≡ false)
neither true b e = absurd cc
neither false b e = (refl, e)

pub same_bytes : (xs ys : List ℕ) → bytes_eq xs ys ≡ true → xs ≡ ys
same_bytes xs ys e = (bytes_eq-Decides xs ys).0 e

pub bytes_same : (xs ys : List ℕ) → xs ≡ ys → bytes_eq xs ys ≡ true
bytes_same xs ys e = (bytes_eq-Decides xs ys).1 e

xml_is_free : bytes_eq xml_space xmlns_space ≡ false
unfolding xml_space xmlns_space
xml_is_free = refl

xml_is_some : bytes_eq xml_space [] ≡ false
unfolding xml_space
xml_is_some = refl

nothing_is_free : bytes_eq [] xmlns_space ≡ false
unfolding xmlns_space
nothing_is_free = refl

other_bytes : (xs ys : List ℕ) → bytes_eq xs ys ≡ false → xs ≢ ys
other_bytes xs ys f e = not_both (bytes_eq xs ys) (bytes_same xs ys e) f

not_reserved : (space : List ℕ) → is_reserved space ≡ false → space ≢ xmlns_space
not_reserved space f = other_bytes space xmlns_space (neither (bytes_eq space xml_space) (bytes_eq space xmlns_space) f).1

-- what a declaration of a prefix that is allowed binds
prefix_free : (xmlns xml : Bool) (space : List ℕ) → (if xmlns then true else if xml then not (bytes_eq space xml_space) else is_reserved space || bytes_eq space []) ≡ false → (space ≢ xmlns_space) × (space ≢ [])
prefix_free true xml space e = absurd cc
prefix_free false true space e = by (bytes_eq space xml_space) refl e
  where
    by : (b : Bool) → bytes_eq space xml_space ≡ b → not b ≡ false → (space ≢ xmlns_space) × (space ≢ [])
    by true is f =
        let same = same_bytes space xml_space is in
        (λ e. other_bytes xml_space xmlns_space xml_is_free (sym same ∙ e), λ e. other_bytes xml_space [] xml_is_some (sym same ∙ e))
    by false is f = absurd cc
prefix_free false false space e =
    let n = neither (is_reserved space) (bytes_eq space []) e in
    (not_reserved space n.0, other_bytes space [] n.1)

pub bound_free : (prefix : Option (List ℕ)) (space : List ℕ) → is_misbound_to prefix space ≡ false → space ≢ xmlns_space
bound_free None space f = not_reserved space f
bound_free (Some prefix) space f = (prefix_free (bytes_eq prefix (codes "xmlns")) (bytes_eq prefix (codes "xml")) space f).0

pub bound_some : (prefix space : List ℕ) → is_misbound_to (Some prefix) space ≡ false → space ≢ []
bound_some prefix space f = (prefix_free (bytes_eq prefix (codes "xmlns")) (bytes_eq prefix (codes "xml")) space f).1

some_space : (a b : Binding) → Some a ≡ Some b → a.space ≡ b.space
some_space a b e = let same : a ≡ b = cc in ap (λ (z : Binding). z.space) same

-- what an attribute declares is its value
binding_value : (prefix : Option (List ℕ)) (local value : List ℕ) (b : Binding) → binding_at prefix local value ≡ Some b → b.space ≡ value
binding_value None local value b e = by (bytes_eq local (codes "xmlns")) e
  where
    by : (test : Bool) → (if test then Some (record { prefix = None; space = value }) else None) ≡ Some b → b.space ≡ value
    by true e = sym (some_space (record { prefix = None; space = value }) b e)
    by false e = absurd cc
binding_value (Some prefix) local value b e = by (bytes_eq prefix (codes "xmlns")) e
  where
    by : (test : Bool) → (if test then Some (record { prefix = Some local; space = value }) else None) ≡ Some b → b.space ≡ value
    by true e = sym (some_space (record { prefix = Some local; space = value }) b e)
    by false e = absurd cc

-- a list that may have one more binding at its front
add_binding : (o : Option Binding) (rest : List Binding) → ((b : Binding) → o ≡ Some b → IsCharText b.space) → list_any is_misbound (cons_option o rest) ≡ false
    → (list_any is_misbound rest ≡ false → All IsSoundBinding rest) → All IsSoundBinding (cons_option o rest)
add_binding None rest chars bad more = more bad
add_binding (Some b) rest chars bad more =
    let n = neither (is_misbound b) (list_any is_misbound rest) bad in
    All-cons IsSoundBinding b rest (record { chars = chars b refl; free = bound_free b.prefix b.space n.0 }) (more n.1)

pub bindings_sound : (xs : List RawAttribute) → All IsSoundRaw xs → list_any is_misbound (bindings_of xs) ≡ false → All IsSoundBinding (bindings_of xs)
bindings_sound [] h bad = All-nil IsSoundBinding
bindings_sound (x ∷ xs) h bad =
    add_binding (binding_of x) (bindings_of xs)
    (λ b e. subst IsCharText (sym (binding_value x.name.prefix x.name.local x.value b e)) ((All-head IsSoundRaw x xs h).chars))
    bad (bindings_sound xs (All-tail IsSoundRaw x xs h))

-- ---- names

sound_nothing : IsSoundSpace []
sound_nothing = record { chars = no_text; free = other_bytes [] xmlns_space nothing_is_free }

chosen_space : (b : Bool) (space : List ℕ) (o : Option (List ℕ)) → IsSoundSpace space → IsSoundSpace (or_nothing o) → IsSoundSpace (or_nothing (if b then Some space else o))
chosen_space true space o h k = h
chosen_space false space o h k = k

looked_up : (bs : List Binding) (prefix : Option (List ℕ)) → All IsSoundBinding bs → IsSoundSpace (or_nothing (bound_to bs prefix))
looked_up [] prefix h = sound_nothing
looked_up (b ∷ bs) prefix h = chosen_space (same_prefix b.prefix prefix) b.space (bound_to bs prefix) (All-head IsSoundBinding b bs h) (looked_up bs prefix (All-tail IsSoundBinding b bs h))

attribute_space_sound : (bs : List Binding) (prefix : Option (List ℕ)) → All IsSoundBinding bs → IsSoundSpace (attribute_space bs prefix)
attribute_space_sound bs None h = sound_nothing
attribute_space_sound bs (Some prefix) h = looked_up bs (Some prefix) h

sound_name : (space local : List ℕ) → IsSoundSpace space → IsName local → IsSoundName (record { space = space; local = local })
sound_name space local h k = record { named = k; chars = h.chars; free = h.free }

expanded_sound : (bs : List Binding) (xs : List RawAttribute) → All IsSoundBinding bs → All IsSoundRaw xs → All IsSoundAttribute (expanded_attributes bs xs)
expanded_sound bs [] hb hx = All-nil IsSoundAttribute
expanded_sound bs (x ∷ xs) hb hx = chosen (is_none (binding_of x)) (expanded_sound bs xs hb (All-tail IsSoundRaw x xs hx))
  where
    chosen : (b : Bool) → All IsSoundAttribute (expanded_attributes bs xs) → All IsSoundAttribute (map (expanded bs) (cond b (x ∷ plain_attributes xs) (plain_attributes xs)))
    chosen true more =
        let raw = All-head IsSoundRaw x xs hx in
        All-cons IsSoundAttribute (expanded bs x) (expanded_attributes bs xs)
        (record { named = sound_name (attribute_space bs x.name.prefix) x.name.local (attribute_space_sound bs x.name.prefix hb) raw.named; chars = raw.chars }) more
    chosen false more = more

abbrev same_attribute : Attribute → Attribute → Bool
same_attribute a b = same_name a.name b.name

abbrev Differ : Attribute → Attribute → Type 0
Differ a b = a.name ≢ b.name

none_same : (x : Attribute) (xs : List Attribute) → list_any (same_attribute x) xs ≡ false → All (Differ x) xs
none_same x [] h = All-nil (Differ x)
none_same x (y ∷ ys) h =
    let n = neither (same_attribute x y) (list_any (same_attribute x) ys) h in
    All-cons (Differ x) y ys (λ e. not_both (same_attribute x y) ((same_name_is x.name y.name).1 e) n.0) (none_same x ys n.1)

names_apart : (xs : List Attribute) → has_twice same_attribute xs ≡ false → AllPairs Differ xs
names_apart [] h = λ i j d below within. absurd (omega arith)
names_apart (x ∷ xs) h =
    let n = neither (list_any (same_attribute x) xs) (has_twice same_attribute xs) h in
    AllPairs-cons Differ x xs (none_same x xs n.0) (names_apart xs n.1)

-- ---- pieces

abbrev pub AreSoundLevels : List Level → Type 0
AreSoundLevels [] = Unit {0}
AreSoundLevels (l ∷ ls) = All IsSoundBinding l.bound × AreSoundLevels ls

xml_chars : IsTrue (list_all is_char (codes "http://www.w3.org/XML/1998/namespace"))
unfolding is_char
xml_chars = refl

xml_ascii : encode_utf8_all (codes "http://www.w3.org/XML/1998/namespace") ≡ xml_space
unfolding encode xml_space
xml_ascii = refl

xml_text : IsCharText xml_space
xml_text = subst IsCharText xml_ascii (char_text (codes "http://www.w3.org/XML/1998/namespace") xml_chars)

xml_sound : IsSoundSpace xml_space
xml_sound = record { chars = xml_text; free = other_bytes xml_space xmlns_space xml_is_free }

bound_in_sound : (ls : List Level) → AreSoundLevels ls → All IsSoundBinding (bound_in ls)
bound_in_sound [] h = All-cons IsSoundBinding (record { prefix = Some (codes "xml"); space = xml_space }) [] xml_sound (All-nil IsSoundBinding)
bound_in_sound (l ∷ ls) h = h.0

abbrev AreTagBindings : Nest → Tag → Type 0
AreTagBindings s tag = All IsSoundBinding (bound_at s tag)

tag_bindings : (s : Nest) (tag : Tag) (front : List ℕ) → AreSoundLevels s.levels → Spells (Start tag) front → broken s (Start tag) ≡ None → AreTagBindings s tag
tag_bindings s tag front levels (name, inside, gap, hn, hi, hg, at) good =
    let u = unbroken s (Start tag) good in
    All-append IsSoundBinding (bindings_of tag.attributes) (bound_in s.levels) (bindings_sound tag.attributes (attributes_sound tag.attributes inside hi) u.binds) (bound_in_sound s.levels levels)

opened_sound : (empty : Bool) (l : Level) (ls : List Level) → All IsSoundBinding l.bound → AreSoundLevels ls → AreSoundLevels (opened empty l ls)
opened_sound true l ls h k = k
opened_sound false l ls h k = (h, k)

outer_sound : (ls : List Level) → AreSoundLevels ls → AreSoundLevels (outer ls)
outer_sound [] h = tt
outer_sound (l ∷ ls) h = h.1

enter_sound : (s : Nest) (p : Piece) (front : List ℕ) → AreSoundLevels s.levels → Spells p front → broken s p ≡ None → AreSoundLevels (enter s p).levels
enter_sound s (Declaration encoding) front levels h good = levels
enter_sound s Instruction front levels h good = levels
enter_sound s Comment front levels h good = levels
enter_sound s (Cdata text) front levels h good = levels
enter_sound s (Start tag) front levels h good = opened_sound tag.empty (record { name = tag.name; bound = bound_at s tag }) s.levels (tag_bindings s tag front levels h good) levels
enter_sound s (End name) front levels h good = outer_sound s.levels levels
enter_sound s (Reference c) front levels h good = levels
enter_sound s LineEnd front levels h good = levels
enter_sound s (Character c) front levels h good = levels

put_sound : (text : List ℕ) (es : List Event) → IsCharText text → AreSoundEvents es → AreSoundEvents (put text es)
put_sound [] es h k = k
put_sound (b ∷ bs) [] h k = (h, tt)
put_sound (b ∷ bs) (Opens at name attributes ∷ es) h k = (h, k)
put_sound (b ∷ bs) (Words text ∷ es) h k = (text_append (b ∷ bs) text h k.0, k.1)
put_sound (b ∷ bs) (Closes ∷ es) h k = (h, k)

inside_sound : (ls : List Level) (text : List ℕ) (es : List Event) → IsCharText text → AreSoundEvents es → AreSoundEvents (put_inside ls text es)
inside_sound [] text es h k = k
inside_sound (l ∷ ls) text es h k = put_sound text es h k

closing_sound : (empty : Bool) (es : List Event) → AreSoundEvents es → AreSoundEvents (closing empty es)
closing_sound true es h = (tt, h)
closing_sound false es h = h

tag_sound : (s : Nest) (tag : Tag) (front : List ℕ) → AreSoundLevels s.levels → Spells (Start tag) front → broken s (Start tag) ≡ None → IsSoundName (element_name (bound_at s tag) tag.name) × AreSoundAttributes (expanded_attributes (bound_at s tag) tag.attributes)
tag_sound s tag front levels (name, inside, gap, hn, hi, hg, at) good =
    let u = unbroken s (Start tag) good in
    let bound = tag_bindings s tag front levels (name, inside, gap, hn, hi, hg, at) good in
    let twice = neither (has_twice (λ (a b : RawAttribute). same_qname a.name b.name) tag.attributes) (has_twice same_attribute (expanded_attributes (bound_at s tag) tag.attributes)) u.once in (
      sound_name (or_nothing (bound_to (bound_at s tag) tag.name.prefix)) tag.name.local (looked_up (bound_at s tag) tag.name.prefix bound) (local_name tag.name.prefix tag.name.local name hn),
      record { each = expanded_sound (bound_at s tag) tag.attributes bound (attributes_sound tag.attributes inside hi); apart = names_apart (expanded_attributes (bound_at s tag) tag.attributes) twice.1 },
    )

line_end_ascii : encode_utf8 0xA ≡ 0xA ∷ []
unfolding encode
line_end_ascii = refl

line_end_text : IsCharText (0xA ∷ [])
line_end_text = subst IsCharText line_end_ascii (one_char 0xA blank_chars.1)

piece_sound : (s : Nest) (at : ℕ) (p : Piece) (front : List ℕ) (es : List Event) → AreSoundLevels s.levels → Spells p front → broken s p ≡ None → AreSoundEvents es → AreSoundEvents (piece_events s (at, p) es)
piece_sound s at (Declaration encoding) front es levels h good k = k
piece_sound s at Instruction front es levels h good k = k
piece_sound s at Comment front es levels h good k = k
piece_sound s at (Cdata text) front es levels (inside, chars, lacks, is, at') good k = inside_sound s.levels text es (subst IsCharText (sym is) (char_text (line_ends inside) (ends_chars false inside chars))) k
piece_sound s at (Start tag) front es levels h good k = (tag_sound s tag front levels h good, closing_sound tag.empty es k)
piece_sound s at (End name) front es levels h good k = (tt, k)
piece_sound s at (Reference c) front es levels h good k = inside_sound s.levels (encode_utf8 c) es (one_char c (reference_char c front h)) k
piece_sound s at LineEnd front es levels h good k = inside_sound s.levels (0xA ∷ []) es line_end_text k
piece_sound s at (Character c) front es levels h good k = inside_sound s.levels (encode_utf8 c) es (one_char c h.0) k

pub events_sound : (s : Nest) (at : ℕ) (ps : List Placed) (text left : List ℕ) → AreSoundLevels s.levels → Reads s at ps text left → AreSoundEvents (events_of s ps)
events_sound s at [] text left levels h = tt
events_sound s at (p ∷ ps) text left levels (place, front, back, stands, good, more, is) =
    piece_sound s p.0 p.1 front (events_of (enter s p.1) ps) levels stands.spelled good
    (events_sound (enter s p.1) (at + width front) ps back left (enter_sound s p.1 front levels stands.spelled good) more)
