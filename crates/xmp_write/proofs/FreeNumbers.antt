-- A numbered prefix is free: hints and given prefixes take no more numbers than they are.
use Rattle.std.proofs.Common.{◌≡◌, ℕ, ◌+◌, ◌^◌, ◌<◌, ◌≤◌, Bool, true, false, not, ◌&&◌, ◌||◌, List, [], ◌∷◌, ◌++◌, length, map, drop, get_or, refl, sym, ap, subst, ◌∙◌, ⊎_elim, arith}
use Rattle.std.specs.List.{list_any, position_or_len, range_with_len, IsDistinct}
use Rattle.std.specs.Set.{is_member}
use Rattle.std.specs.Str.{bytes_eq}
use Rattle.std.proofs.lemmas.Bool.{cases_lt}
use Rattle.std.proofs.lemmas.Cmp.{nat_list_eq_equiv}
use Rattle.std.proofs.lemmas.Fmt.{decimal_injective}
use Rattle.std.proofs.lemmas.List.{get_or-map, length-map, length-append}
use Rattle.std.proofs.lemmas.List.Folds.{list_any-append, Any-from_list_any}
use Rattle.std.proofs.lemmas.List.FromFn.{get_or-range_with_len, length-range_with_len}
use Rattle.std.proofs.lemmas.List.Sums.{passes_at_first}
use Rattle.std.proofs.lemmas.Map.Made.{IsDistinct-from_AllPairs, length-le_from_is_member}
use Rattle.std.proofs.lemmas.Slice.Eq.{bytes_eq-Decides}
use Rattle.xmp_values.specs.declared.hints.Hint.{Hint}
use Rattle.xmp_write.specs.Prefixes.{has_prefix, is_free, numbered, free_number}
use Rattle.xmp_write.proofs.Numbers.{AreTried, least_tried}

pub numbered_injective : (m n : ℕ) → m < 2 ^ 64 → n < 2 ^ 64 → numbered m ≡ numbered n → m ≡ n
numbered_injective m n small also same = decimal_injective m n small also (ap (drop 2) same)

-- the prefixes of a list
abbrev prefixes_in : List Hint → List (List ℕ)
prefixes_in = map (λ h. h.prefix)

has_prefix-map : (hs : List Hint) (prefix : List ℕ) → has_prefix hs prefix ≡ list_any (bytes_eq prefix) (prefixes_in hs)
has_prefix-map [] prefix = refl
has_prefix-map (h ∷ hs) prefix = ap (λ rest. bytes_eq prefix h.prefix || rest) (has_prefix-map hs prefix)

either_taken : (hinted given : Bool) → (not hinted && not given) ≡ false → (hinted || given) ≡ true
either_taken true given e = refl
either_taken false true e = refl
either_taken false false e = absurd cc

module _ (hints given : List Hint) where
  is_taken : (prefix : List ℕ) → is_free hints given prefix ≡ false → list_any (bytes_eq prefix) (prefixes_in hints ++ prefixes_in given) ≡ true
  is_taken prefix taken =
      list_any-append (bytes_eq prefix) (prefixes_in hints) (prefixes_in given)
      ∙ ap (λ hinted. hinted || list_any (bytes_eq prefix) (prefixes_in given)) (sym (has_prefix-map hints prefix))
      ∙ ap (λ also. has_prefix hints prefix || also) (sym (has_prefix-map given prefix))
      ∙ either_taken (has_prefix hints prefix) (has_prefix given prefix) taken

  -- the prefixes of the numbers from 1 on, so many
  module _ (many : ℕ) (small : many < 2 ^ 64) where
    counted : length (map numbered (range_with_len 1 many)) ≡ many
    counted = length-map (range_with_len 1 many) numbered ∙ length-range_with_len 1 many

    read : (k : ℕ) (d : List ℕ) → k < many → get_or (map numbered (range_with_len 1 many)) k d ≡ numbered (1 + k)
    read k d within =
        let long : length (range_with_len 1 many) ≡ many = length-range_with_len 1 many in
        get_or-map numbered (range_with_len 1 many) k 0 d (omega arith) ∙ ap numbered (get_or-range_with_len 1 many k 0 within)

    distinct : IsDistinct bytes_eq (map numbered (range_with_len 1 many))
    distinct = IsDistinct-from_AllPairs bytes_eq-Decides (map numbered (range_with_len 1 many))
        (λ i j d lt within same.
        let early : j < many = omega (arith, counted) in
        let clash = numbered_injective (1 + i) (1 + j) (omega arith) (omega arith) (sym (read i d (omega arith)) ∙ same ∙ read j d early) in
        omega arith)

    member : AreTried hints given (many + 1) → (q : List ℕ) → is_member bytes_eq (map numbered (range_with_len 1 many)) q ≡ true → is_member bytes_eq (prefixes_in hints ++ prefixes_in given) q ≡ true
    member tried q here =
        let found = Any-from_list_any (bytes_eq q) (map numbered (range_with_len 1 many)) here in
        let within : found.0 < many = omega (arith, counted, found.2) in
        let same : q ≡ numbered (1 + found.0) = (bytes_eq-Decides q found.1).0 found.4 ∙ sym found.3 ∙ read found.0 found.1 within in
        subst (λ prefix. list_any (bytes_eq prefix) (prefixes_in hints ++ prefixes_in given) ≡ true) (sym same)
        (is_taken (numbered (1 + found.0)) (tried (1 + found.0) (omega arith) (omega arith)))

    bounded : AreTried hints given (many + 1) → many ≤ length hints + length given
    bounded tried =
        let fits = length-le_from_is_member nat_list_eq_equiv (map numbered (range_with_len 1 many)) (prefixes_in hints ++ prefixes_in given) distinct (member tried) in
        omega (arith, fits, counted, length-append (prefixes_in hints) (prefixes_in given), length-map hints (λ (h : Hint). h.prefix), length-map given (λ (h : Hint). h.prefix))

  one_more : (n : ℕ) → AreTried hints given n → is_free hints given (numbered n) ≡ false → AreTried hints given (n + 1)
  one_more n tried taken m some below = ⊎_elim
      (λ lower. tried m some lower)
      (λ here. let same : m ≡ n = omega arith in subst (λ k. is_free hints given (numbered k) ≡ false) (sym same) taken)
      (cases_lt m n)

  -- either it is free, or too many numbers are taken
  decided : (b : Bool) → b ≡ is_free hints given (numbered (free_number hints given)) → length hints + length given + 1 < 2 ^ 64 → length hints + length given < free_number hints given
      → is_free hints given (numbered (free_number hints given)) ≡ true
  decided true e small past = sym e
  decided false e small past =
      let tried = one_more (free_number hints given) (least_tried hints given) (sym e) in
      let many = length hints + length given + 1 in
      let fits = bounded many small (λ n some below. tried n some (omega arith)) in
      absurd (omega arith)

  pub free_number-free : length hints + length given + 1 < 2 ^ 64 → is_free hints given (numbered (free_number hints given)) ≡ true
  free_number-free small =
      let numbers = range_with_len 1 (length hints + length given) in
      let long : length numbers ≡ length hints + length given = length-range_with_len 1 (length hints + length given) in
      let place = position_or_len (λ n. is_free hints given (numbered n)) numbers in
      ⊎_elim
      (λ inside.
      let here : get_or numbers place 0 ≡ 1 + place = get_or-range_with_len 1 (length hints + length given) place 0 inside in
      subst (λ n. is_free hints given (numbered n) ≡ true) here (passes_at_first (λ n. is_free hints given (numbered n)) numbers 0 (omega arith)))
      (λ past. decided (is_free hints given (numbered (free_number hints given))) refl small (omega arith))
      (cases_lt place (length hints + length given))
