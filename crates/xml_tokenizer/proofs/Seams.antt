-- Where a text is cut.
use Rattle.std.proofs.Common.{◌≡◌, ℕ, ◌-◌, Bool, true, false, List, [], ◌∷◌, ◌++◌, length, refl, sym, ap, ◌∙◌, append_assoc, arith}
use Rattle.std.specs.List.{list_all}
use Rattle.std.specs.Prelude.{IsTrue, encode_utf8, encode_utf8_all}
use Rattle.std.specs.Str.{chars, IsUtf8, IsCharBoundary}
use Rattle.std.proofs.lemmas.List.{length-append, append-nil}
use Rattle.std.proofs.lemmas.Str.{encodes-append, chars-nil, IsCharBoundary-at_seam}
use Rattle.xml_grammar.proofs.Splits.{both}
use Rattle.xml_tokenizer.specs.Runs.{Passes, taken, past}

-- A run goes on: what was passed, and what is left.
pub record Went (p : ℕ → Bool) (text rest : List ℕ) : Type 0 where
  pub front : List ℕ
  pub parts : text ≡ encode_utf8_all front ++ rest
  pub run : taken p (chars text) ≡ front ++ taken p (chars rest)
  pub same : past p (chars rest) ≡ past p (chars text)

pub record IsRun (p : ℕ → Bool) (text rest : List ℕ) : Type 0 where
  pub parts : text ≡ encode_utf8_all (taken p (chars text)) ++ rest
  pub same : chars rest ≡ past p (chars text)

pub went_more : (p : ℕ → Bool) (text rest after : List ℕ) (c : ℕ) → Went p text rest → rest ≡ encode_utf8 c ++ after → chars rest ≡ c ∷ chars after → p c ≡ true → Went p text after
went_more p text rest after c w e h yes_ =
    let one : encode_utf8_all (c ∷ []) ≡ encode_utf8 c = append-nil (encode_utf8 c) in
    let t : taken p (chars rest) ≡ c ∷ taken p (chars after) = rw (h, yes_) refl in
    let s : past p (chars rest) ≡ past p (chars after) = rw (h, yes_) refl in
    let joined : encode_utf8_all w.front ++ (encode_utf8 c ++ after) ≡ encode_utf8_all (w.front ++ c ∷ []) ++ after = sym (ap (λ (x : List ℕ). x ++ after) (encodes-append w.front (c ∷ []) ∙ ap (λ (x : List ℕ). encode_utf8_all w.front ++ x) one) ∙ append_assoc (encode_utf8_all w.front) (encode_utf8 c) after) in
    record {
      front = w.front ++ c ∷ [];
      parts = w.parts ∙ ap (λ (x : List ℕ). encode_utf8_all w.front ++ x) e ∙ joined;
      run = w.run ∙ ap (λ (x : List ℕ). w.front ++ x) t ∙ sym (append_assoc w.front (c ∷ []) (taken p (chars after)));
      same = sym s ∙ w.same;
    }

taken_front : (p : ℕ → Bool) (front rest : List ℕ) → IsTrue (list_all p front) → (taken p (front ++ rest) ≡ front ++ taken p rest) × (past p (front ++ rest) ≡ past p rest)
taken_front p [] rest h = (refl, refl)
taken_front p (c ∷ front) rest h =
    let k = both (p c) (list_all p front) h in
    let ih = taken_front p front rest k.1 in
    (rw (k.0) (ap (λ (x : List ℕ). c ∷ x) ih.0), rw (k.0) ih.1)

pub went_pass : (p : ℕ → Bool) (text rest after : List ℕ) → Went p text rest → Passes p rest after → Went p text after
went_pass p text rest after w (front, all, at, of) =
    let k = taken_front p front (chars after) all in
    record {
      front = w.front ++ front;
      parts = w.parts ∙ ap (λ (x : List ℕ). encode_utf8_all w.front ++ x) at ∙ sym (append_assoc (encode_utf8_all w.front) (encode_utf8_all front) after) ∙ ap (λ (x : List ℕ). x ++ after) (sym (encodes-append w.front front));
      run = w.run ∙ ap (λ (x : List ℕ). w.front ++ x) (ap (taken p) of ∙ k.0) ∙ sym (append_assoc w.front front (taken p (chars after)));
      same = sym k.1 ∙ ap (past p) (sym of) ∙ w.same;
    }

pub went_stop : (p : ℕ → Bool) (text rest after : List ℕ) (c : ℕ) → Went p text rest → chars rest ≡ c ∷ chars after → p c ≡ false → IsRun p text rest
went_stop p text rest after c w h no_ =
    let t : taken p (chars rest) ≡ [] = rw (h, no_) refl in
    let s : past p (chars rest) ≡ chars rest = rw (h, no_) refl in
    let all : taken p (chars text) ≡ w.front = w.run ∙ ap (λ (x : List ℕ). w.front ++ x) t ∙ append-nil w.front in
    record {
      parts = w.parts ∙ ap (λ (x : List ℕ). encode_utf8_all x ++ rest) (sym all);
      same = sym s ∙ w.same;
    }

pub went_end : (p : ℕ → Bool) (text rest : List ℕ) → Went p text rest → rest ≡ [] → IsRun p text rest
went_end p text rest w e =
    let n : chars rest ≡ [] = ap chars e ∙ chars-nil in
    let t : taken p (chars rest) ≡ [] = ap (taken p) n in
    let s : past p (chars rest) ≡ chars rest = ap (past p) n ∙ sym n in
    let all : taken p (chars text) ≡ w.front = w.run ∙ ap (λ (x : List ℕ). w.front ++ x) t ∙ append-nil w.front in
    record {
      parts = w.parts ∙ ap (λ (x : List ℕ). encode_utf8_all x ++ rest) (sym all);
      same = sym s ∙ w.same;
    }

-- a text that is a front and a rest may be cut between them
pub seam : (text front rest : List ℕ) → text ≡ front ++ rest → IsUtf8 rest → IsCharBoundary text (length text - length rest)
seam text front rest e u =
    let k : length text - length rest ≡ length front = omega (arith, ap length e, length-append front rest) in
    rw k (IsCharBoundary-at_seam text front rest e u)
