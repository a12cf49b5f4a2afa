-- A date of digits is written as its digits.
use Rattle.std.proofs.Common.{◌≡◌, ℕ, Bool, true, false, cond, List, [], ◌∷◌, ◌++◌, length, get_or, Some, None, refl, sym, ap, ◌∙◌, arith, codes}
use Rattle.field_values.specs.Dates.{are_digits, date_exists, date_text, number, number_of}

digits_of : (b : Bool) (n m : ℕ) → cond b (Some n) None ≡ Some m → (b ≡ true) × (n ≡ m)
digits_of true n m e = (refl, cc)
digits_of false n m e = absurd (cc)

pub number_of-some : (count : ℕ) (bytes : List ℕ) (n : ℕ) → number_of count bytes ≡ Some n → (are_digits count bytes ≡ true) × (number bytes ≡ n)
unfolding number_of
number_of-some count bytes n e = digits_of (are_digits count bytes) (number bytes) n e

two_of : (xs : List ℕ) → length xs ≡ 2 → xs ≡ get_or xs 0 0 ∷ get_or xs 1 0 ∷ []
two_of [] e = absurd (omega arith)
two_of (a ∷ []) e = absurd (omega arith)
two_of (a ∷ b ∷ []) e = refl
two_of (a ∷ b ∷ c ∷ xs) e = absurd (omega arith)

four_of : (xs : List ℕ) → length xs ≡ 4 → xs ≡ get_or xs 0 0 ∷ get_or xs 1 0 ∷ get_or xs 2 0 ∷ get_or xs 3 0 ∷ []
four_of [] e = absurd (omega arith)
four_of (a ∷ []) e = absurd (omega arith)
four_of (a ∷ b ∷ []) e = absurd (omega arith)
four_of (a ∷ b ∷ c ∷ []) e = absurd (omega arith)
four_of (a ∷ b ∷ c ∷ d ∷ []) e = refl
four_of (a ∷ b ∷ c ∷ d ∷ x ∷ xs) e = absurd (omega arith)

module _ (year month day : List ℕ) where
  written : length year ≡ 4 → length month ≡ 2 → length day ≡ 2
      → year ++ codes "-" ++ month ++ codes "-" ++ day
      ≡ get_or year 0 0 ∷ get_or year 1 0 ∷ get_or year 2 0 ∷ get_or year 3 0 ∷ 45 ∷ get_or month 0 0 ∷ get_or month 1 0 ∷ 45
      ∷ get_or day 0 0 ∷ get_or day 1 0 ∷ []
  written l m n =
      let a = ap (λ (xs : List ℕ). xs ++ codes "-" ++ month ++ codes "-" ++ day) (four_of year l) in
      let b = ap (λ (xs : List ℕ). get_or year 0 0 ∷ get_or year 1 0 ∷ get_or year 2 0 ∷ get_or year 3 0 ∷ 45 ∷ (xs ++ codes "-" ++ day)) (two_of month m) in
      let d = ap (λ (xs : List ℕ). get_or year 0 0 ∷ get_or year 1 0 ∷ get_or year 2 0 ∷ get_or year 3 0 ∷ 45 ∷ get_or month 0 0 ∷ get_or month 1 0 ∷ 45 ∷ xs) (two_of day n) in
      a ∙ b ∙ d

  -- numbers that were read from digits, and make a day
  pub date_text-written : (y m d : ℕ) (exists : Bool) → length year ≡ 4 → length month ≡ 2 → length day ≡ 2
      → Some y ≡ number_of 4 year → Some m ≡ number_of 2 month → Some d ≡ number_of 2 day
      → exists ≡ date_exists y m d → exists ≡ true
      → Some (get_or year 0 0 ∷ get_or year 1 0 ∷ get_or year 2 0 ∷ get_or year 3 0 ∷ 45 ∷ get_or month 0 0 ∷ get_or month 1 0 ∷ 45
      ∷ get_or day 0 0 ∷ get_or day 1 0 ∷ []) ≡ date_text year month day
  unfolding date_text
  date_text-written y m d exists ly lm ld ey em ed e holds =
      let p = number_of-some 4 year y (sym ey) in
      let q = number_of-some 2 month m (sym em) in
      let r = number_of-some 2 day d (sym ed) in
      let there : date_exists y m d ≡ true = sym e ∙ holds in
      rw (p.0, q.0, r.0, p.1, q.1, r.1, there) (ap Some (sym (written ly lm ld)))
