-- Bytes below 128, at which a text may be cut, and which are characters themselves.
use Rattle.std.proofs.Common.{◌≡◌, ℕ, suc, ◌+◌, ◌<◌, ◌≤◌, Bool, true, false, not, List, [], ◌∷◌, ◌++◌, length, take, drop, refl, sym, ap, ◌∙◌, arith, length-take-le, take-append-drop, get_or-take, drop-cons}
use Rattle.std.specs.Prelude.{IsTrue, encode_utf8, encode_utf8_all}
use Rattle.std.specs.List.{list_all, slice_index}
use Rattle.std.specs.Str.{chars, IsUtf8, IsCharBoundary}
use Rattle.std.proofs.lemmas.List.Folds.{list_all-append}
use Rattle.std.proofs.lemmas.Str.{encode_ascii, chars-append, chars_past_char, IsUtf8-take, IsUtf8-drop, IsCharBoundary-before_ascii}
use Rattle.memchr.specs.Find.{Nowhere, NoneBefore, Passes}
use Rattle.xml_grammar.proofs.Splits.{both, all_cons}

abbrev pub fails : (ℕ → Bool) → ℕ → Bool
fails test b = not (test b)

pub none_passes : (test : ℕ → Bool) (bytes : List ℕ) → Nowhere (Passes test bytes) 0 (length bytes) → IsTrue (list_all (fails test) bytes)
none_passes test [] h = refl
none_passes test (b ∷ bytes) h = all_cons (fails test) b bytes (by_first (test b) refl) (none_passes test bytes (λ k low high at. h (suc k) (omega arith) (omega arith) at))
  where
    by_first : (v : Bool) → test b ≡ v → not v ≡ true
    by_first true e = absurd (h 0 (omega arith) (omega arith) e)
    by_first false e = refl

-- no such byte, no such character
pub none_spelled : (test : ℕ → Bool) → ((b : ℕ) → test b ≡ true → b < 128) → (cs : List ℕ) → IsTrue (list_all (fails test) (encode_utf8_all cs)) → IsTrue (list_all (fails test) cs)
none_spelled test low [] h = refl
none_spelled test low (c ∷ cs) h =
    let k = both (list_all (fails test) (encode_utf8 c)) (list_all (fails test) (encode_utf8_all cs)) (sym (list_all-append (fails test) (encode_utf8 c) (encode_utf8_all cs)) ∙ h) in
    all_cons (fails test) c cs (by_test (test c) refl k.0) (none_spelled test low cs k.1)
  where
    by_test : (v : Bool) → test c ≡ v → IsTrue (list_all (fails test) (encode_utf8 c)) → not v ≡ true
    by_test false e h = refl
    by_test true e h =
        let one : list_all (fails test) (c ∷ []) ≡ true = ap (list_all (fails test)) (sym (encode_ascii c (low c e))) ∙ h in
        let no = (both (fails test c) true one).0 in
        sym (ap not e) ∙ no

-- the text before a byte, and from it on
pub record CutAt (test : ℕ → Bool) (text : List ℕ) (at : ℕ) : Type 0 where
  pub boundary : IsCharBoundary text at
  pub parts : chars text ≡ chars (take at text) ++ chars (drop at text)
  pub front : IsUtf8 (take at text)
  pub lacks : IsTrue (list_all (fails test) (take at text))

-- before the first byte that passes
pub cut_before : (test : ℕ → Bool) (text : List ℕ) (high at : ℕ) → ((b : ℕ) → test b ≡ true → b < 128) → IsUtf8 text → high ≤ length text → NoneBefore (Passes test text) 0 high at → Passes test text at → CutAt test text at
cut_before test text high at low u fits first found =
    let boundary = IsCharBoundary-before_ascii text at (omega (arith, first.high)) (low (slice_index text at) found) in
    let front = IsUtf8-take text at u boundary in
    let long : length (take at text) ≡ at = length-take-le at text boundary.0 in
    record {
      boundary = boundary;
      parts = ap chars (sym (take-append-drop at text)) ∙ chars-append (take at text) (drop at text) front;
      front = front;
      lacks = none_passes test (take at text) (λ k z h p. first.before k z (omega arith) (sym (ap test (get_or-take at text k 0 (omega arith))) ∙ p));
    }

-- the byte is the first character from there on
pub char_at : (text : List ℕ) (at : ℕ) → IsUtf8 text → at < length text → slice_index text at < 128 → chars (drop at text) ≡ slice_index text at ∷ chars (drop (at + 1) text)
char_at text at u h low =
    let boundary = IsCharBoundary-before_ascii text at h low in
    let one : suc at ≡ at + 1 = omega arith in
    let next : drop (suc at) text ≡ drop (at + 1) text = ap (λ (n : ℕ). drop n text) one in
    let byte : drop at text ≡ encode_utf8 (slice_index text at) ++ drop (at + 1) text = drop-cons text at 0 h ∙ ap (λ (t : List ℕ). slice_index text at ∷ t) next ∙ ap (λ (t : List ℕ). t ++ drop (at + 1) text) (sym (encode_ascii (slice_index text at) low)) in
    chars_past_char (drop at text) (drop (at + 1) text) (slice_index text at) (IsUtf8-drop text at u boundary) byte
