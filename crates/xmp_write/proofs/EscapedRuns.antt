-- Runs of bytes that stand for themselves, and the bytes between them.
use Rattle.std.proofs.Common.{◌≡◌, ℕ, suc, ◌+◌, ◌-◌, ◌<◌, ◌≤◌, Bool, true, false, not, cond, ◌||◌, List, [], ◌∷◌, ◌++◌, length, take, drop, get_or, refl, sym, ap, subst, ◌∙◌, ⊎_elim, length-drop, arith}
use Rattle.std.specs.Prelude.{codes, ◌==◌}
use Rattle.std.proofs.lemmas.Bool.{or_parts, or_right, or_cases, eqb-true, not-false}
use Rattle.std.proofs.lemmas.List.{append_assoc, append-nil, take_more, take_rest, get_or-drop}
use Rattle.std.proofs.Math.Seq.{take-add}
use Rattle.std.proofs.lemmas.List.Sums.{prefix_len_stops}
use Rattle.xmp_lanes.specs.declared.plain.Escape.{Escape}
use Rattle.xmp_lanes.specs.declared.plain.Escape.TheVariants.{Text, Attribute}
use Rattle.xmp_lanes.specs.Runs.{is_escaped, is_escaped_in_text, plain_run}
use Rattle.xmp_write.specs.Text.{text_byte, quoted_byte}
use Rattle.xmp_write.specs.Placing.{Puts, escape_byte, escaped}
use Rattle.xmp_write.proofs.PlacedPieces.{◌▸◌, puts_as}

chosen : (a b c d : Bool) (w x y z rest : List ℕ) → (((a || b) || c) || d) ≡ false → cond a w (cond b x (cond c y (cond d z rest))) ≡ rest
chosen false false false false w x y z rest is = refl
chosen true b c d w x y z rest is = absurd cc
chosen false true c d w x y z rest is = absurd cc
chosen false false true d w x y z rest is = absurd cc
chosen false false false true w x y z rest is = absurd cc

-- a byte that isn't escaped stands for itself
pub text_plain : (b : ℕ) → is_escaped_in_text b ≡ false → text_byte b ≡ b ∷ []
text_plain b is = chosen (b == 0x26) (b == 0x3C) (b == 0x3E) (b == 0xD) (codes "&amp;") (codes "&lt;") (codes "&gt;") (codes "&#xD;") (b ∷ []) is

three : (a b c : Bool) (w x y rest : List ℕ) → a ≡ false → b ≡ false → c ≡ false → cond a w (cond b x (cond c y rest)) ≡ rest
three a b c w x y rest no_a no_b no_c =
    ap (λ t. cond t w (cond b x (cond c y rest))) no_a ∙ ap (λ t. cond t x (cond c y rest)) no_b ∙ ap (λ t. cond t y rest) no_c

plain_byte : (place : Escape) (b : ℕ) → is_escaped place b ≡ false → escape_byte place b ≡ b ∷ []
plain_byte Text b is = text_plain b is
plain_byte Attribute b is =
    let last = or_parts ((b == 0x22) || (b == 0x9) || (b == 0xA)) (is_escaped_in_text b) is in
    let third = or_parts ((b == 0x22) || (b == 0x9)) (b == 0xA) last.0 in
    let first = or_parts (b == 0x22) (b == 0x9) third.0 in
    three (b == 0x22) (b == 0x9) (b == 0xA) (codes "&quot;") (codes "&#x9;") (codes "&#xA;") (text_byte b) first.0 first.1 third.1 ∙ text_plain b last.1

-- a byte that is escaped is escaped alike in both places
text_reference : (b : ℕ) → is_escaped_in_text b ≡ true → quoted_byte b ≡ text_byte b
text_reference b is =
    let alike = λ (n : ℕ) (same : quoted_byte n ≡ text_byte n) (here : (b == n) ≡ true). subst (λ (m : ℕ). quoted_byte m ≡ text_byte m) (sym (eqb-true b n here)) same in
    ⊎_elim
    (λ three. ⊎_elim (λ two. ⊎_elim (alike 0x26 refl) (alike 0x3C refl) (or_cases (b == 0x26) (b == 0x3C) two)) (alike 0x3E refl) (or_cases ((b == 0x26) || (b == 0x3C)) (b == 0x3E) three))
    (alike 0xD refl)
    (or_cases ((b == 0x26) || (b == 0x3C) || (b == 0x3E)) (b == 0xD) is)

pub same_reference : (place : Escape) (b : ℕ) → is_escaped place b ≡ true → (is_escaped Attribute b ≡ true) × (quoted_byte b ≡ escape_byte place b)
same_reference Attribute b is = (is, refl)
same_reference Text b is = (or_right ((b == 0x22) || (b == 0x9) || (b == 0xA)) (is_escaped_in_text b) is, text_reference b is)

run_more : (n : ℕ) (x : ℕ) (xs : List ℕ) → take (1 + n) (x ∷ xs) ≡ x ∷ take n xs
run_more n x xs = let same : 1 + n ≡ suc n = omega arith in ap (λ k. take k (x ∷ xs)) same

module _ (place : Escape) where
  abbrev passes : ℕ → Bool
  passes b = not (is_escaped place b)

  run_plain : (xs : List ℕ) → escaped place (take (plain_run place xs) xs) ≡ take (plain_run place xs) xs
  run_plain [] = refl
  run_plain (x ∷ xs) = by (is_escaped place x) refl (run_plain xs)
    where
      by : (b : Bool) → is_escaped place x ≡ b → escaped place (take (plain_run place xs) xs) ≡ take (plain_run place xs) xs
          → escaped place (take (cond (not b) (1 + plain_run place xs) 0) (x ∷ xs)) ≡ take (cond (not b) (1 + plain_run place xs) 0) (x ∷ xs)
      by true is rest = refl
      by false is rest =
          ap (escaped place) (run_more (plain_run place xs) x xs) ∙ ap (λ front. front ++ escaped place (take (plain_run place xs) xs)) (plain_byte place x is)
          ∙ ap (λ more. x ∷ more) rest ∙ sym (run_more (plain_run place xs) x xs)

  pub escaped-append : (xs ys : List ℕ) → escaped place (xs ++ ys) ≡ escaped place xs ++ escaped place ys
  escaped-append [] ys = refl
  escaped-append (x ∷ xs) ys = ap (λ rest. escape_byte place x ++ rest) (escaped-append xs ys) ∙ sym (append_assoc (escape_byte place x) (escaped place xs) (escaped place ys))

  -- a run after what is escaped before it, and the byte after the run
  module _ (text : List ℕ) (from : ℕ) (within : from ≤ length text) where
    abbrev run : ℕ
    run = plain_run place (drop from text)

    pub run_escaped : escaped place (take from text) ++ take run (drop from text) ≡ escaped place (take (from + run) text)
    run_escaped =
        ap (λ rest. escaped place (take from text) ++ rest) (sym (run_plain (drop from text))) ∙ sym (escaped-append (take from text) (take run (drop from text)))
        ∙ ap (escaped place) (sym (take-add from run text))

    pub stop_escaped : from + run < length text → is_escaped place (get_or text (from + run) 0) ≡ true
    stop_escaped inside =
        let long = length-drop from text in
        let stopped = prefix_len_stops passes (drop from text) 0 (omega (arith, long)) in
        not-false (is_escaped place (get_or text (from + run) 0)) (ap passes (sym (get_or-drop from text run 0)) ∙ stopped)

pub byte_escaped : (place : Escape) (text : List ℕ) (at : ℕ) → at < length text → escaped place (take at text) ++ escape_byte place (get_or text at 0) ≡ escaped place (take (at + 1) text)
byte_escaped place text at inside =
    ap (λ rest. escaped place (take at text) ++ rest) (sym (append-nil (escape_byte place (get_or text at 0)))) ∙ sym (escaped-append place (take at text) (get_or text at 0 ∷ []))
    ∙ ap (escaped place) (sym (take_more text at 0 inside))

-- the same of a run that was found in the text's rest and put
module _ (place : Escape) (text : List ℕ) (from run : ℕ) (within : from ≤ length text) (found : run ≡ plain_run place (take (length text - from) (drop from text))) where
  the_run : run ≡ plain_run place (drop from text)
  the_run = found ∙ ap (plain_run place) (take_rest text from)

  pub stopped_at : from + run < length text → is_escaped place (get_or text (from + run) 0) ≡ true
  stopped_at inside =
      subst (λ (n : ℕ). is_escaped place (get_or text (from + n) 0) ≡ true) (sym the_run)
      (stop_escaped place text from within (subst (λ (n : ℕ). from + n < length text) the_run inside))

  pub run_put : {old mid new : List ℕ} {at i j : ℕ} → Puts old mid at i (escaped place (take from text)) → Puts mid new i j (take (from + run - from) (drop from text))
      → Puts old new at j (escaped place (take (from + run) text))
  run_put first second =
      let many : from + run - from ≡ run = omega arith in
      puts_as (escaped place (take (from + run) text)) (first ▸ second)
      (ap (λ n. escaped place (take from text) ++ take n (drop from text)) (many ∙ the_run) ∙ run_escaped place text from within ∙ ap (λ n. escaped place (take (from + n) text)) (sym the_run))

pub byte_put : (place : Escape) (text : List ℕ) (n : ℕ) (piece : List ℕ) {old mid new : List ℕ} {at i j : ℕ} → n < length text → is_escaped place (get_or text n 0) ≡ true → piece ≡ quoted_byte (get_or text n 0)
    → Puts old mid at i (escaped place (take n text)) → Puts mid new i j piece → Puts old new at j (escaped place (take (n + 1) text))
byte_put place text n piece inside stops is first second =
    puts_as (escaped place (take (n + 1) text)) (first ▸ second)
    (ap (λ bytes. escaped place (take n text) ++ bytes) (is ∙ (same_reference place (get_or text n 0) stops).1) ∙ byte_escaped place text n inside)
