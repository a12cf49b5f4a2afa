-- Looking for a word: the first place of its bytes is the first place of its characters.
use Rattle.std.proofs.Common.{◌≡◌, ◌≢◌, ℕ, ◌+◌, ◌<◌, ◌≤◌, Bool, true, false, cond, eqb, ltb, List, [], ◌∷◌, ◌++◌, length, take, drop, Option, Some, None, refl, sym, ap, subst, ◌∙◌, append_assoc, length-append, length-take-le, take-append-drop, arith}
use Rattle.std.specs.Prelude.{encode_utf8, encode_utf8_all, codes, is_some}
use Rattle.std.specs.List.{list_all, slice_index}
use Rattle.std.specs.Str.{chars, IsUtf8, IsCharBoundary}
use Rattle.std.proofs.lemmas.Bool.{false≢true, eqb-true, eq-eqb, ltb-true, ltb-false}
use Rattle.std.proofs.lemmas.List.{take_at, drop_at, nil_from_length}
use Rattle.std.proofs.lemmas.Str.{chars-nil, chars-append, encodes-append, encodes-chars, encodes-IsAscii, length-le-encodes, IsUtf8-take, IsUtf8-drop}
use Rattle.memchr.specs.Find.{FindsNeedle, IsFirstByte, OccursAt, Nowhere, NoneBefore, is_byte}
use Rattle.memchr.proofs.lemmas.MatchLemmas.{OccursAt-from_part, OccursAt-split}
use Rattle.xml_grammar.specs.Spelling.{AreChars}
use Rattle.xml_grammar.proofs.Splits.{both, all_cons, head_same, tail_same}
use Rattle.xmp_values.specs.Characters.{is_char}
use Rattle.xml_tokenizer.specs.Runs.{after, up_to, past, is_ascii}
use Rattle.xml_tokenizer.proofs.SectionLaws.{Ends, up_to_again, up_to_takes}
use Rattle.xml_tokenizer.proofs.Words.{word_bytes, word_found, after_takes}

-- a word that stands after a front occurs at the front's length
occurs_after : (text word a b : List ℕ) → text ≡ a ++ (word ++ b) → OccursAt text word (length a)
occurs_after text word a b e =
    let long = ap length e in
    let fits : length a + length word ≤ length text = omega (arith, long, length-append a (word ++ b), length-append word b) in
    let dropped : drop (length a) text ≡ word ++ b = ap (drop (length a)) e ∙ drop_at a (word ++ b) (length a) refl in
    OccursAt-from_part text word (length a) fits (ap (take (length word)) dropped ∙ take_at word b (length word) refl)

-- the same over characters
occurs_at_chars : (text word a b : List ℕ) → IsUtf8 text → is_ascii word ≡ true → chars text ≡ a ++ (word ++ b) → OccursAt text word (length (encode_utf8_all a))
occurs_at_chars text word a b u ascii e =
    let spelled : encode_utf8_all (word ++ b) ≡ word ++ encode_utf8_all b = encodes-append word b ∙ ap (λ (t : List ℕ). t ++ encode_utf8_all b) (encodes-IsAscii word (word_bytes word ascii)) in
    occurs_after text word (encode_utf8_all a) (encode_utf8_all b) (sym (encodes-chars text u) ∙ ap encode_utf8_all e ∙ encodes-append a (word ++ b) ∙ ap (λ (t : List ℕ). encode_utf8_all a ++ t) spelled)

-- what is read up to a word shows a place of the word
record Read (word text : List ℕ) (x : List ℕ × List ℕ) : Type 0 where
  pub inside : AreChars x.0
  pub parts : chars text ≡ x.0 ++ (word ++ x.1)
  pub occurs : OccursAt text word (length (encode_utf8_all x.0))

read_of : (word text : List ℕ) (x : List ℕ × List ℕ) → IsUtf8 text → is_ascii word ≡ true → 0 < length word → up_to word (chars text) ≡ Some x → Read word text x
read_of word text x u ascii some e =
    let t = up_to_takes word [] word refl some (chars text) x e in
    record { inside = t.chars; parts = t.parts; occurs = occurs_at_chars text word x.0 x.1 u ascii t.parts }

none_by : {A : Type 0} (r : Option A) → ((x : A) → r ≡ Some x → ⊥) → r ≡ None
none_by None h = refl
none_by (Some x) h = absurd (h x refl)

-- the word stands nowhere
pub sought_nowhere : (word text : List ℕ) → IsUtf8 text → is_ascii word ≡ true → 0 < length word → Nowhere (OccursAt text word) 0 (length text + 1) → up_to word (chars text) ≡ None
sought_nowhere word text u ascii some h = none_by (up_to word (chars text)) (λ x e.
    let r = read_of word text x u ascii some e in
    h (length (encode_utf8_all x.0)) (omega arith) (omega (arith, r.occurs.fits)) r.occurs)

-- a text without `]` has no `]]>`
pub no_bracket : (text : List ℕ) (r : Option ℕ) → IsUtf8 text → IsFirstByte (is_byte 0x5D) text r → is_some r ≡ false → up_to (codes "]]>") (chars text) ≡ None
no_bracket text None u h e = sought_nowhere (codes "]]>") text u refl (omega arith) (λ k low high occurs. h k (omega arith) (omega (arith, occurs.fits)) (first k occurs))
  where
    first : (k : ℕ) → OccursAt text (codes "]]>") k → eqb (slice_index text k) 0x5D ≡ true
    first k occurs =
        let here : k ≡ k + 0 = omega arith in
        eq-eqb (slice_index text k) 0x5D (ap (slice_index text) here ∙ occurs.reads 0 (omega arith))
no_bracket text (Some at) u h e = absurd cc

-- a front that is no longer in bytes is a front of it
front_of_front : (a b c d : List ℕ) → c ++ d ≡ a ++ b → length (encode_utf8_all c) ≤ length (encode_utf8_all a) → AreChars a → AreChars c
front_of_front a b [] d e le all = refl
front_of_front [] b (x ∷ c) d e le all = let one = length-le-encodes (x ∷ c) in absurd (omega arith)
front_of_front (y ∷ a) b (x ∷ c) d e le all =
    let same : x ≡ y = head_same x y (c ++ d) (a ++ b) e in
    let k = both (is_char y) (list_all is_char a) all in
    let shorter : length (encode_utf8_all c) ≤ length (encode_utf8_all a) = omega (arith, ap (λ (z : ℕ). length (encode_utf8 z)) same, length-append (encode_utf8 x) (encode_utf8_all c), length-append (encode_utf8 y) (encode_utf8_all a)) in
    all_cons is_char x c (ap is_char same ∙ k.0) (front_of_front a b c d (tail_same x y (c ++ d) (a ++ b) e) shorter k.1)

-- what no Char is stands before the word
pub sought_stuck : (word text inside stop : List ℕ) (high : ℕ) → IsUtf8 text → IsUtf8 inside → is_ascii word ≡ true → 0 < length word → text ≡ inside ++ stop
    → NoneBefore (OccursAt text word) 0 high (length inside) → list_all is_char (chars inside) ≡ false → up_to word (chars text) ≡ None
sought_stuck word text inside stop high u v ascii some e first lacks = none_by (up_to word (chars text)) (λ x h.
    let r = read_of word text x u ascii some h in
    let long : length (encode_utf8_all (chars inside)) ≡ length inside = ap length (encodes-chars inside v) in
    let later : length inside ≤ length (encode_utf8_all x.0) = not_before (ltb (length (encode_utf8_all x.0)) (length inside)) refl r.occurs in
    let all : AreChars (chars inside) = front_of_front x.0 (word ++ x.1) (chars inside) (chars stop) (sym (ap chars e ∙ chars-append inside stop v) ∙ r.parts) (omega (arith, long, later)) r.inside in
    false≢true (sym lacks ∙ all))
  where
    not_before : {n : ℕ} (b : Bool) → ltb n (length inside) ≡ b → OccursAt text word n → length inside ≤ n
    not_before {n} true k occurs = absurd (first.before n (omega arith) (ltb-true n (length inside) k) occurs)
    not_before {n} false k occurs = ltb-false n (length inside) k

-- Chars alone stand before the word
pub sought_found : (word text inside stop rest : List ℕ) (high : ℕ) → IsUtf8 text → IsUtf8 inside → is_ascii word ≡ true → 0 < length word → text ≡ inside ++ stop
    → NoneBefore (OccursAt text word) 0 high (length inside) → AreChars (chars inside) → after word (chars stop) ≡ Some rest → up_to word (chars text) ≡ Some (chars inside, rest)
sought_found [] text inside stop rest high u v ascii some e first all h = absurd (omega arith)
sought_found (w ∷ ws) text inside stop rest high u v ascii some e first all h =
    let at : chars text ≡ chars inside ++ ((w ∷ ws) ++ rest) = ap chars e ∙ chars-append inside stop v ∙ ap (λ (t : List ℕ). chars inside ++ t) (after_takes (w ∷ ws) (chars stop) rest h) in
    ap (up_to (w ∷ ws)) at ∙ up_to_again w ws (chars inside) rest (ends at) (chars inside) [] refl all
  where
    ends : chars text ≡ chars inside ++ ((w ∷ ws) ++ rest) → Ends (w ∷ ws) (chars inside) rest
    ends at a [] y is same = refl
    ends at a (m ∷ more) y is same =
        let again : chars text ≡ a ++ ((w ∷ ws) ++ y) = at ∙ ap (λ (t : List ℕ). t ++ ((w ∷ ws) ++ rest)) is ∙ append_assoc a (m ∷ more) ((w ∷ ws) ++ rest) ∙ ap (λ (t : List ℕ). a ++ t) (sym same) in
        let long : length inside ≡ length (encode_utf8_all a) + length (encode_utf8_all (m ∷ more)) = ap length (sym (encodes-chars inside v) ∙ ap encode_utf8_all is ∙ encodes-append a (m ∷ more)) ∙ length-append (encode_utf8_all a) (encode_utf8_all (m ∷ more)) in
        let one : length (m ∷ more) ≤ length (encode_utf8_all (m ∷ more)) = length-le-encodes (m ∷ more) in
        absurd (first.before (length (encode_utf8_all a)) (omega arith) (omega (arith, long, one)) (occurs_at_chars text (w ∷ ws) a y u ascii again))

-- a text may be cut where an ASCII word occurs
pub occurs_boundary : (text word : List ℕ) (at : ℕ) → is_ascii word ≡ true → 0 < length word → OccursAt text word at → IsCharBoundary text at
occurs_boundary text word at ascii some h =
    let zero : at + 0 ≡ at = omega arith in
    let same : slice_index text at ≡ slice_index word 0 = ap (slice_index text) (sym zero) ∙ h.reads 0 some in
    let low : slice_index word 0 < 128 = word_bytes word ascii 0 in
    (omega (arith, h.fits), λ l high. absurd (omega (arith, same, low, high)))

-- the text is cut at the first place of the word
pub record Cut (word text inside stop : List ℕ) : Type 0 where
  pub parts : text ≡ inside ++ stop
  pub utf8 : IsUtf8 inside
  pub later : IsUtf8 stop
  pub first : NoneBefore (OccursAt text word) 0 (length text + 1) (length inside)
  pub occurs : OccursAt text word (length inside)

pub cut_of : (word text inside stop : List ℕ) (at : ℕ) → IsUtf8 text → is_ascii word ≡ true → 0 < length word → NoneBefore (OccursAt text word) 0 (length text + 1) at → OccursAt text word at
    → inside ≡ take at text → stop ≡ drop at text → Cut word text inside stop
cut_of word text inside stop at u ascii some first occurs e f =
    let boundary = occurs_boundary text word at ascii some occurs in
    let long : at ≡ length inside = sym (ap length e ∙ length-take-le at text boundary.0) in
    record {
      parts = sym (take-append-drop at text) ∙ ap (λ (t : List ℕ). t ++ drop at text) (sym e) ∙ ap (λ (t : List ℕ). inside ++ t) (sym f);
      utf8 = subst IsUtf8 (sym e) (IsUtf8-take text at u boundary);
      later = subst IsUtf8 (sym f) (IsUtf8-drop text at u boundary);
      first = subst (NoneBefore (OccursAt text word) 0 (length text + 1)) long first;
      occurs = subst (OccursAt text word) long occurs;
    }

-- there the word stands
pub cut_stands : (word text inside stop : List ℕ) → is_ascii word ≡ true → Cut word text inside stop → after word (chars stop) ≢ None
cut_stands word text inside stop ascii k none =
    let n = length inside + length word in
    let at : stop ≡ word ++ drop n text = sym (ap (drop (length inside)) k.parts ∙ drop_at inside stop (length inside) refl) ∙ OccursAt-split text word (length inside) k.occurs in
    let found = word_found word stop (drop n text) ascii at in
    absurd cc

-- a run goes to the end where all characters are of it, and only there
past_all : (p : ℕ → Bool) (cs : List ℕ) → past p cs ≡ [] → list_all p cs ≡ true
past_all p [] e = refl
past_all p (c ∷ cs) e = by_test (p c) refl e (past_all p cs)
  where
    by_test : (v : Bool) → p c ≡ v → cond v (past p cs) (c ∷ cs) ≡ [] → (past p cs ≡ [] → list_all p cs ≡ true) → list_all p (c ∷ cs) ≡ true
    by_test true t h ih = all_cons p c cs t (ih h)
    by_test false t h ih = absurd cc

all_past : (p : ℕ → Bool) (cs : List ℕ) → list_all p cs ≡ true → past p cs ≡ []
all_past p [] e = refl
all_past p (c ∷ cs) e = let k = both (p c) (list_all p cs) e in rw (k.0) (all_past p cs k.1)

pub all_where_none_left : (p : ℕ → Bool) (cs rest : List ℕ) → IsUtf8 rest → chars rest ≡ past p cs → eqb (length rest) 0 ≡ list_all p cs
all_where_none_left p cs rest u h = by_answers (eqb (length rest) 0) (list_all p cs) refl refl
  where
    by_answers : (v w : Bool) → eqb (length rest) 0 ≡ v → list_all p cs ≡ w → v ≡ w
    by_answers true w e f = sym (past_all p cs (sym h ∙ ap chars (nil_from_length rest (eqb-true (length rest) 0 e)) ∙ chars-nil)) ∙ f
    by_answers false false e f = refl
    by_answers false true e f =
        let none : rest ≡ [] = sym (encodes-chars rest u) ∙ ap encode_utf8_all (h ∙ all_past p cs f) in
        absurd (false≢true (sym e ∙ eq-eqb (length rest) 0 (ap length none)))

-- a search in the same bytes for the same bytes
pub finds_same : (hay needle text word : List ℕ) (r : Option ℕ) → hay ≡ text → needle ≡ word → FindsNeedle hay needle 0 r → FindsNeedle text word 0 r
finds_same hay needle text word r e f h = subst (λ (n : List ℕ). FindsNeedle text n 0 r) f (subst (λ (t : List ℕ). FindsNeedle t needle 0 r) e h)
