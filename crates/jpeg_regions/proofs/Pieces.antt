-- What the bytes that were wanted say of the rest of a file.
use Rattle.std.proofs.Common.{◌≡◌, ℕ, zero, suc, ◌+◌, ◌-◌, ◌<◌, min, List, [], ◌∷◌, length, get_or, take, drop, refl, sym, ap, ◌∙◌, arith}
use Rattle.std.proofs.lemmas.List.{drop-drop, length-drop, take_min}

front_one : (xs piece : List ℕ) (n : ℕ) → piece ≡ take n xs → 0 < length piece → xs ≡ get_or piece 0 0 ∷ drop 1 xs
front_one xs piece zero e h = absurd (omega (arith, ap length e))
front_one [] piece (suc n) e h = absurd (omega (arith, ap length e))
front_one (x ∷ xs) piece (suc n) e h = ap (λ (p : List ℕ). get_or p 0 0 ∷ xs) (sym e)

front_two : (xs piece : List ℕ) (n : ℕ) → piece ≡ take n xs → 1 < length piece → xs ≡ get_or piece 0 0 ∷ get_or piece 1 0 ∷ drop 2 xs
front_two xs piece zero e h = absurd (omega (arith, ap length e))
front_two [] piece (suc n) e h = absurd (omega (arith, ap length e))
front_two (x ∷ xs) piece (suc zero) e h = absurd (omega (arith, ap length e))
front_two (x ∷ []) piece (suc (suc n)) e h = absurd (omega (arith, ap length e))
front_two (x ∷ y ∷ xs) piece (suc (suc n)) e h = ap (λ (p : List ℕ). get_or p 0 0 ∷ get_or p 1 0 ∷ xs) (sym e)

pub none_left : (xs piece : List ℕ) (n : ℕ) → piece ≡ take n xs → 0 < n → length piece ≡ 0 → xs ≡ []
none_left xs piece zero e h l = absurd (omega arith)
none_left [] piece (suc n) e h l = refl
none_left (x ∷ xs) piece (suc n) e h l = absurd (omega (arith, ap length e))

pub one_left : (xs piece : List ℕ) (n : ℕ) → piece ≡ take n xs → 1 < n → length piece ≡ 1 → xs ≡ get_or piece 0 0 ∷ []
one_left xs piece zero e h l = absurd (omega arith)
one_left xs piece (suc zero) e h l = absurd (omega arith)
one_left [] piece (suc (suc n)) e h l = absurd (omega (arith, ap length e))
one_left (x ∷ []) piece (suc (suc n)) e h l = ap (λ (p : List ℕ). get_or p 0 0 ∷ []) (sym e)
one_left (x ∷ y ∷ xs) piece (suc (suc n)) e h l = absurd (omega (arith, ap length e))

module _ (file piece : List ℕ) (at n : ℕ) (e : piece ≡ take n (drop at file)) where
  pub first_byte : 0 < length piece → drop at file ≡ get_or piece 0 0 ∷ drop (at + 1) file
  first_byte h = front_one (drop at file) piece n e h ∙ ap (λ (l : List ℕ). get_or piece 0 0 ∷ l) (drop-drop 1 at file)

  pub first_two : 1 < length piece → drop at file ≡ get_or piece 0 0 ∷ get_or piece 1 0 ∷ drop (at + 2) file
  first_two h = front_two (drop at file) piece n e h ∙ ap (λ (l : List ℕ). get_or piece 0 0 ∷ get_or piece 1 0 ∷ l) (drop-drop 2 at file)

  pub second_byte : 1 < length piece → drop (at + 1) file ≡ get_or piece 1 0 ∷ drop (at + 1 + 1) file
  second_byte h = sym (drop-drop 1 at file) ∙ ap (drop 1) (front_two (drop at file) piece n e h)
      ∙ ap (λ (l : List ℕ). get_or piece 1 0 ∷ l) (drop-drop 2 at file ∙ ap (λ (k : ℕ). drop k file) (omega arith))

-- the part that is wanted, as far as the file has it
pub piece_is : (file : List ℕ) (at count len start end : ℕ) → length file ≡ len → start ≡ at → end ≡ at + min count (len - at)
    → take (end - start) (drop start file) ≡ take count (drop at file)
piece_is file at count len start end full a b =
    ap (λ (k : ℕ). take (end - k) (drop k file)) a
    ∙ ap (λ (k : ℕ). take k (drop at file)) (let rest : length (drop at file) ≡ len - at = length-drop at file ∙ ap (λ (k : ℕ). k - at) full in
    let e : end - at ≡ min count (length (drop at file)) = omega (arith, b, rest) in e)
    ∙ take_min count (drop at file)

-- the same of a piece that was read
pub piece_read : (file to : List ℕ) (at count len start end : ℕ) → length file ≡ len → start ≡ at → end ≡ at + min count (len - at) → length to ≡ end - start
    → to ≡ take (length to) (drop start file) → to ≡ take count (drop at file)
piece_read file to at count len start end full a b size e =
    e ∙ ap (λ (k : ℕ). take k (drop start file)) size ∙ piece_is file at count len start end full a b
