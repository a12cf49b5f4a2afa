-- Escapes of bytes are those of characters.
use Rattle.std.proofs.Common.{◌≡◌, ℕ, ◌<◌, Bool, true, false, cond, ◌⊎◌, inl, inr, List, [], ◌∷◌, ◌++◌, length, get_or, refl, ap, sym, ◌∙◌, append-nil, arith}
use Rattle.std.specs.Prelude.{All, codes, ◌==◌, encode_utf8, encode_utf8_all}
use Rattle.std.specs.List.{list_all, flat_map}
use lib.Utf8.{encode}
use Rattle.std.proofs.lemmas.Bool.{and_parts, and_from, eqb-true}
use Rattle.std.proofs.lemmas.List.Folds.{list_all-append}
use Rattle.std.proofs.Math.Utf8.{scalar, scalars}
use Rattle.xmp_values.specs.Characters.{is_char}
use Rattle.xmp_values.proofs.CharacterTexts.{char_scalars}
use Rattle.std.proofs.lemmas.List.Concat.{flat_map-append}
use Rattle.std.proofs.lemmas.List.Elements.{All-head, All-tail, All-from_get_or}
use Rattle.std.proofs.lemmas.Str.{encode_ascii, encodes-append, inside_one}
use Rattle.xmp_write.specs.Text.{text_byte, quoted_byte, text_escaped, quoted_escaped}

same_each : (f : ℕ → List ℕ) (xs : List ℕ) → All (λ b. f b ≡ b ∷ []) xs → flat_map f xs ≡ xs
same_each f [] h = refl
same_each f (x ∷ xs) h =
    ap (λ (t : List ℕ). t ++ flat_map f xs) (All-head (λ b. f b ≡ b ∷ []) x xs h) ∙ ap (λ (t : List ℕ). x ∷ t) (same_each f xs (All-tail (λ b. f b ≡ b ∷ []) x xs h))

pub scalars_append : (a b : List ℕ) → scalars a ≡ true → scalars b ≡ true → scalars (a ++ b) ≡ true
scalars_append [] b h k = k
scalars_append (c ∷ cs) b h k = let parts = and_parts (scalar c) (scalars cs) h in and_from (scalar c) (scalars (cs ++ b)) parts.0 (scalars_append cs b parts.1 k)

-- characters of which each is escaped by Chars
pub chars_escaped : (f : ℕ → List ℕ) → ((c : ℕ) → is_char c ≡ true → list_all is_char (f c) ≡ true) → (cs : List ℕ) → list_all is_char cs ≡ true → list_all is_char (flat_map f cs) ≡ true
chars_escaped f each [] h = refl
chars_escaped f each (c ∷ cs) h =
    let parts = and_parts (is_char c) (list_all is_char cs) h in
    list_all-append is_char (f c) (flat_map f cs) ∙ and_from (list_all is_char (f c)) (list_all is_char (flat_map f cs)) (each c parts.0) (chars_escaped f each cs parts.1)

text_chars : (c : ℕ) → is_char c ≡ true → list_all is_char (text_byte c) ≡ true
unfolding is_char
text_chars c h = by (c == 0x26) (c == 0x3C) (c == 0x3E) (c == 0xD) (and_from (is_char c) true h refl)
  where
    by : (x y z w : Bool) → list_all is_char (c ∷ []) ≡ true → list_all is_char (cond x (codes "&amp;") (cond y (codes "&lt;") (cond z (codes "&gt;") (cond w (codes "&#xD;") (c ∷ []))))) ≡ true
    by true y z w h = refl
    by false true z w h = refl
    by false false true w h = refl
    by false false false true h = refl
    by false false false false h = h

quoted_chars : (c : ℕ) → is_char c ≡ true → list_all is_char (quoted_byte c) ≡ true
unfolding is_char
quoted_chars c h = by (c == 0x22) (c == 0x9) (c == 0xA) (text_chars c h)
  where
    by : (x y z : Bool) → list_all is_char (text_byte c) ≡ true → list_all is_char (cond x (codes "&quot;") (cond y (codes "&#x9;") (cond z (codes "&#xA;") (text_byte c)))) ≡ true
    by true y z h = refl
    by false true z h = refl
    by false false true h = refl
    by false false false h = h

pub text_scalars : (cs : List ℕ) → list_all is_char cs ≡ true → scalars (text_escaped cs) ≡ true
text_scalars cs h = char_scalars (text_escaped cs) (chars_escaped text_byte text_chars cs h)

pub quoted_scalars : (cs : List ℕ) → list_all is_char cs ≡ true → scalars (quoted_escaped cs) ≡ true
quoted_scalars cs h = char_scalars (quoted_escaped cs) (chars_escaped quoted_byte quoted_chars cs h)

-- a byte that is escaped by ASCII is ASCII, and each other byte stands for itself
abbrev pub Escapes : (ℕ → List ℕ) → Type 0
Escapes f = (b : ℕ) → ((b < 128) × (encode_utf8_all (f b) ≡ f b)) ⊎ (f b ≡ b ∷ [])

module _ (f : ℕ → List ℕ) (h : Escapes f) where
  kept : (c : ℕ) → f c ≡ c ∷ [] → flat_map f (encode_utf8 c) ≡ encode_utf8 c
  kept c same = same_each f (encode_utf8 c) (All-from_get_or (λ b. f b ≡ b ∷ []) (encode_utf8 c) 0 (λ k lt. by k lt (h (get_or (encode_utf8 c) k 0))))
    where
      by : (k : ℕ) → k < length (encode_utf8 c) → ((get_or (encode_utf8 c) k 0 < 128) × (encode_utf8_all (f (get_or (encode_utf8 c) k 0)) ≡ f (get_or (encode_utf8 c) k 0))) ⊎ (f (get_or (encode_utf8 c) k 0) ≡ get_or (encode_utf8 c) k 0 ∷ [])
          → f (get_or (encode_utf8 c) k 0) ≡ get_or (encode_utf8 c) k 0 ∷ []
      by k lt (inl (low, ascii)) =
          let one : c ≡ get_or (encode_utf8 c) k 0 = inside_one c [] (encode_utf8 c) k (sym (append-nil (encode_utf8 c))) lt low in
          ap f (sym one) ∙ same ∙ ap (λ (b : ℕ). b ∷ []) one
      by k lt (inr is) = is

  one : (c : ℕ) → flat_map f (encode_utf8 c) ≡ encode_utf8_all (f c)
  one c = by (h c)
    where
      by : ((c < 128) × (encode_utf8_all (f c) ≡ f c)) ⊎ (f c ≡ c ∷ []) → flat_map f (encode_utf8 c) ≡ encode_utf8_all (f c)
      by (inl (low, ascii)) = ap (flat_map f) (encode_ascii c low) ∙ append-nil (f c) ∙ sym ascii
      by (inr same) = kept c same ∙ sym (append-nil (encode_utf8 c)) ∙ ap encode_utf8_all (sym same)

  pub escaped_chars : (cs : List ℕ) → flat_map f (encode_utf8_all cs) ≡ encode_utf8_all (flat_map f cs)
  escaped_chars [] = refl
  escaped_chars (c ∷ cs) =
      flat_map-append f (encode_utf8 c) (encode_utf8_all cs) ∙ ap (λ (t : List ℕ). t ++ flat_map f (encode_utf8_all cs)) (one c)
      ∙ ap (λ (t : List ℕ). encode_utf8_all (f c) ++ t) (escaped_chars cs) ∙ sym (encodes-append (f c) (flat_map f cs))

pub text_escapes : Escapes text_byte
unfolding encode
text_escapes b = by (b == 0x26) (b == 0x3C) (b == 0x3E) (b == 0xD) (eqb-true b 0x26) (eqb-true b 0x3C) (eqb-true b 0x3E) (eqb-true b 0xD)
  where
    by : (x y z w : Bool) → (x ≡ true → b ≡ 0x26) → (y ≡ true → b ≡ 0x3C) → (z ≡ true → b ≡ 0x3E) → (w ≡ true → b ≡ 0xD)
        → ((b < 128) × (encode_utf8_all (cond x (codes "&amp;") (cond y (codes "&lt;") (cond z (codes "&gt;") (cond w (codes "&#xD;") (b ∷ []))))) ≡ cond x (codes "&amp;") (cond y (codes "&lt;") (cond z (codes "&gt;") (cond w (codes "&#xD;") (b ∷ []))))))
        ⊎ (cond x (codes "&amp;") (cond y (codes "&lt;") (cond z (codes "&gt;") (cond w (codes "&#xD;") (b ∷ [])))) ≡ b ∷ [])
    by true y z w p q r t = let e = p refl in inl (omega arith, refl)
    by false true z w p q r t = let e = q refl in inl (omega arith, refl)
    by false false true w p q r t = let e = r refl in inl (omega arith, refl)
    by false false false true p q r t = let e = t refl in inl (omega arith, refl)
    by false false false false p q r t = inr refl

pub quoted_escapes : Escapes quoted_byte
unfolding encode
quoted_escapes b = by (b == 0x22) (b == 0x9) (b == 0xA) (eqb-true b 0x22) (eqb-true b 0x9) (eqb-true b 0xA) (text_escapes b)
  where
    by : (x y z : Bool) → (x ≡ true → b ≡ 0x22) → (y ≡ true → b ≡ 0x9) → (z ≡ true → b ≡ 0xA) → ((b < 128) × (encode_utf8_all (text_byte b) ≡ text_byte b)) ⊎ (text_byte b ≡ b ∷ [])
        → ((b < 128) × (encode_utf8_all (cond x (codes "&quot;") (cond y (codes "&#x9;") (cond z (codes "&#xA;") (text_byte b)))) ≡ cond x (codes "&quot;") (cond y (codes "&#x9;") (cond z (codes "&#xA;") (text_byte b)))))
        ⊎ (cond x (codes "&quot;") (cond y (codes "&#x9;") (cond z (codes "&#xA;") (text_byte b))) ≡ b ∷ [])
    by true y z p q r t = let e = p refl in inl (omega arith, refl)
    by false true z p q r t = let e = q refl in inl (omega arith, refl)
    by false false true p q r t = let e = r refl in inl (omega arith, refl)
    by false false false p q r t = t
