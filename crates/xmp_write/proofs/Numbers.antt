-- The least number whose prefix is free.
use Rattle.std.proofs.Common.{◌≡◌, ℕ, Bool, ◌&&◌, ◌||◌, not, ◌++◌, ◌∷◌, [], refl, ◌+◌, ◌-◌, ◌<◌, ◌≤◌, true, false, List, length, get_or, sym, ap, subst, ◌∙◌, arith}
use Rattle.std.specs.Str.{bytes_eq}
use Rattle.std.proofs.lemmas.Slice.Eq.{bytes_eq-Decides}
use Rattle.std.proofs.lemmas.List.Folds.{list_any-append}
use Rattle.std.specs.List.{range_with_len}
use Rattle.std.proofs.lemmas.List.FromFn.{get_or-range_with_len, length-range_with_len}
use Rattle.std.proofs.lemmas.List.Sums.{position_or_len_is, fails_before_first, prefix_len-le-length}
use Rattle.xmp_values.specs.declared.hints.Hint.{Hint}
use Rattle.xmp_write.specs.Prefixes.{has_prefix, is_free, numbered, free_number}

module _ (hints given : List Hint) where
  -- no prefix of a number below is free
  abbrev pub AreTried : ℕ → Type 0
  AreTried next = (n : ℕ) → 1 ≤ n → n < next → is_free hints given (numbered n) ≡ false

  tried_at : (next : ℕ) → AreTried next → (k : ℕ) → k < length hints + length given → k + 1 < next → is_free hints given (numbered (get_or (range_with_len 1 (length hints + length given)) k 0)) ≡ false
  tried_at next tried k within below =
      subst (λ n. is_free hints given (numbered n) ≡ false) (sym (get_or-range_with_len 1 (length hints + length given) k 0 within)) (tried (1 + k) (omega arith) (omega arith))

  -- the first number that passes is the least whose prefix is free
  pub least_is : (n : ℕ) → 1 ≤ n → n < length hints + length given + 1 → AreTried n → is_free hints given (numbered n) ≡ true → n ≡ free_number hints given
  least_is n some within tried free =
      let numbers = range_with_len 1 (length hints + length given) in
      let long : length numbers ≡ length hints + length given = length-range_with_len 1 (length hints + length given) in
      let same : 1 + (n - 1) ≡ n = omega arith in
      let here : get_or numbers (n - 1) 0 ≡ n = get_or-range_with_len 1 (length hints + length given) (n - 1) 0 (omega arith) ∙ same in
      let place = position_or_len_is (λ n. is_free hints given (numbered n)) numbers (n - 1) 0 (omega arith)
      (λ k below. tried_at n tried k (omega arith) (omega arith))
      (λ inside. subst (λ n. is_free hints given (numbered n) ≡ true) (sym here) free) in
      sym same ∙ ap (λ at. 1 + at) (sym place)

  -- where no number up to that of all hints and given prefixes passes, it is the one after
  pub least_past : (n : ℕ) → length hints + length given + 1 ≤ n → AreTried n → length hints + length given + 1 ≡ free_number hints given
  least_past n past tried =
      let numbers = range_with_len 1 (length hints + length given) in
      let long : length numbers ≡ length hints + length given = length-range_with_len 1 (length hints + length given) in
      let place = position_or_len_is (λ n. is_free hints given (numbered n)) numbers (length hints + length given) 0 (omega arith)
      (λ k below. tried_at n tried k below (omega arith))
      (λ inside. absurd (omega arith)) in
      let after : length hints + length given + 1 ≡ 1 + (length hints + length given) = omega arith in
      after ∙ ap (λ at. 1 + at) (sym place)

  -- no number below the least is free
  pub least_tried : AreTried (free_number hints given)
  least_tried n some below =
      let numbers = range_with_len 1 (length hints + length given) in
      let long : length numbers ≡ length hints + length given = length-range_with_len 1 (length hints + length given) in
      let bound = prefix_len-le-length (λ n. not (is_free hints given (numbered n))) numbers in
      let same : 1 + (n - 1) ≡ n = omega arith in
      let here : get_or numbers (n - 1) 0 ≡ n = get_or-range_with_len 1 (length hints + length given) (n - 1) 0 (omega arith) ∙ same in
      subst (λ n. is_free hints given (numbered n) ≡ false) here (fails_before_first (λ n. is_free hints given (numbered n)) numbers (n - 1) 0 (omega arith))

less_free : (hinted given more : Bool) → (not hinted && not given) ≡ false → (not hinted && not (given || more)) ≡ false
less_free true given more e = refl
less_free false true more e = refl
less_free false false more e = absurd cc

none_free : (hinted given : Bool) → (not hinted && not (given || (true || false))) ≡ false
none_free true given = refl
none_free false true = refl
none_free false false = refl

-- One more prefix that is given.
module _ (hints given : List Hint) (h : Hint) (prefix : List ℕ) where
  pushed : has_prefix (given ++ h ∷ []) prefix ≡ (has_prefix given prefix || (bytes_eq prefix h.prefix || false))
  pushed = list_any-append (λ h. bytes_eq prefix h.prefix) given (h ∷ [])

  -- what isn't free stays so
  pub free-more : is_free hints given prefix ≡ false → is_free hints (given ++ h ∷ []) prefix ≡ false
  free-more taken =
      ap (λ has. not (has_prefix hints prefix) && not has) pushed
      ∙ less_free (has_prefix hints prefix) (has_prefix given prefix) (bytes_eq prefix h.prefix || false) taken

  -- what is given isn't free
  pub free-given : prefix ≡ h.prefix → is_free hints (given ++ h ∷ []) prefix ≡ false
  free-given same =
      ap (λ has. not (has_prefix hints prefix) && not has) (pushed ∙ ap (λ here. has_prefix given prefix || (here || false)) ((bytes_eq-Decides prefix h.prefix).1 same))
      ∙ none_free (has_prefix hints prefix) (has_prefix given prefix)
