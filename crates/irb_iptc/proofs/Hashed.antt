-- Texts that all differ, by numbers that do.
use Rattle.std.proofs.Common.{◌≡◌, ℕ, zero, suc, ◌+◌, ◌<◌, ◌≤◌, Bool, true, false, cond, ◌||◌, eqb, List, [], ◌∷◌, ◌++◌, length, get_or, map, refl, sym, ap, subst, ◌∙◌, arith, append_assoc}
use Rattle.std.specs.Bool.{OnTrue}
use Rattle.std.specs.List.{list_any, sum_by}
use Rattle.std.specs.List.Sorted.{IsPermutation, IsStrictlyIncreasing}
use Rattle.std.specs.Str.{bytes_eq}
use Rattle.std.proofs.lemmas.Bool.Decides.{Decides-eqb, nat_tests}
use Rattle.std.proofs.lemmas.List.{append-nil, map-append}
use Rattle.std.proofs.lemmas.List.Kept.{AllPairs-from_increasing}
use Rattle.std.proofs.lemmas.List.Sorted.{sum_by-IsPermutation}
use Rattle.std.proofs.lemmas.List.Sums.{sum_by-append, sum_by-cons}
use Rattle.std.proofs.lemmas.Slice.Eq.{bytes_eq-Decides}
use Rattle.xmp_values.specs.Texts.{with_text}
use Rattle.irb_iptc.specs.Fields.{distinct_after}

abbrev one_at : ℕ → ℕ → ℕ
one_at x y = cond (eqb x y) 1 0

-- how often a number stands in a list
abbrev times : ℕ → List ℕ → ℕ
times x ys = sum_by (one_at x) ys

times-cons : (x y : ℕ) (ys : List ℕ) → times x (y ∷ ys) ≡ one_at x y + times x ys
times-cons x y ys = sum_by-cons (one_at x) y ys

-- a number stands in no list of greater ones
above : (x : ℕ) (ys : List ℕ) → ((k d : ℕ) → k < length ys → x < get_or ys k d) → times x ys ≡ 0
above x [] h = refl
above x (y ∷ ys) h =
    let here : x < y = h zero 0 (omega arith) in
    let apart : one_at x y ≡ 0 = grind (arith, nat_tests, here) in
    let rest : times x ys ≡ 0 = above x ys (λ k d lt. h (suc k) d (omega (arith, lt))) in
    omega (arith, times-cons x y ys, apart, rest)

-- where each is below the next, each stands there once
once : (x : ℕ) (ys : List ℕ) → ((i j d : ℕ) → i < j → j < length ys → get_or ys i d < get_or ys j d) → times x ys ≤ 1
once x [] h = omega arith
once x (y ∷ ys) h = by (once x ys (λ i j d lt in_j. h (suc i) (suc j) d (omega (arith, lt)) (omega (arith, in_j)))) (eqb x y) refl
  where
    by : times x ys ≤ 1 → (b : Bool) → eqb x y ≡ b → times x (y ∷ ys) ≤ 1
    by few true e =
        let same : x ≡ y = (Decides-eqb x y).0 e in
        let rest : times x ys ≡ 0 = above x ys (λ k d lt. subst (λ n. n < get_or ys k d) (sym same) (h zero (suc k) d (omega arith) (omega (arith, lt)))) in
        let here : one_at x y ≡ 1 = ap (λ b. cond b 1 0) e in
        omega (arith, times-cons x y ys, here, rest)
    by few false e =
        let here : one_at x y ≡ 0 = ap (λ b. cond b 1 0) e in
        omega (arith, times-cons x y ys, here, few)

-- the number of a text that is there stands among the numbers
there : (h : List ℕ → ℕ) (t : List ℕ) (seen : List (List ℕ)) → list_any (bytes_eq t) seen ≡ true → 1 ≤ times (h t) (map h seen)
there h t [] is = absurd (cc is)
there h t (s ∷ seen) is = by (there h t seen) (bytes_eq t s) refl is
  where
    by : (list_any (bytes_eq t) seen ≡ true → 1 ≤ times (h t) (map h seen)) → (b : Bool) → bytes_eq t s ≡ b → (b || list_any (bytes_eq t) seen) ≡ true
        → 1 ≤ times (h t) (map h (s ∷ seen))
    by later true e k =
        let same : h t ≡ h s = ap h ((bytes_eq-Decides t s).0 e) in
        let here : one_at (h t) (h s) ≡ 1 = ap (λ b. cond b 1 0) ((Decides-eqb (h t) (h s)).1 same) in
        omega (arith, times-cons (h t) (h s) (map h seen), here)
    by later false e k = let rest = later k in omega (arith, times-cons (h t) (h s) (map h seen), rest)

-- a text whose number isn't there is new
new_text : (h : List ℕ → ℕ) (seen : List (List ℕ)) (t : List ℕ) (ts : List (List ℕ)) → times (h t) (map h (seen ++ t ∷ ts)) ≤ 1 → with_text seen t ≡ seen ++ t ∷ []
new_text h seen t ts few = by (list_any (bytes_eq t) seen) refl
  where
    by : (b : Bool) → list_any (bytes_eq t) seen ≡ b → cond b seen (seen ++ t ∷ []) ≡ seen ++ t ∷ []
    by false e = refl
    by true e =
        let parts : times (h t) (map h (seen ++ t ∷ ts)) ≡ times (h t) (map h seen) + times (h t) (h t ∷ map h ts)
        = ap (times (h t)) (map-append h seen (t ∷ ts)) ∙ sum_by-append (one_at (h t)) (map h seen) (h t ∷ map h ts) in
        let here : one_at (h t) (h t) ≡ 1 = ap (λ b. cond b 1 0) ((Decides-eqb (h t) (h t)).1 refl) in
        absurd (omega (arith, few, parts, times-cons (h t) (h t) (map h ts), here, there h t seen e))

all_kept : (h : List ℕ → ℕ) (seen ts : List (List ℕ)) → ((x : ℕ) → times x (map h (seen ++ ts)) ≤ 1) → distinct_after seen ts ≡ seen ++ ts
all_kept h seen [] few = sym (append-nil seen)
all_kept h seen (t ∷ ts) few =
    let moved : (seen ++ t ∷ []) ++ ts ≡ seen ++ t ∷ ts = append_assoc seen (t ∷ []) ts in
    ap (λ kept. distinct_after kept ts) (new_text h seen t ts (few (h t)))
    ∙ all_kept h (seen ++ t ∷ []) ts (λ x. subst (λ l. times x (map h l) ≤ 1) (sym moved) (few x))
    ∙ moved

-- texts whose numbers can be put so that each is below the next
pub no_repeat : (h : List ℕ → ℕ) (texts : List (List ℕ)) (numbers : List ℕ) → IsPermutation (map h texts) numbers → IsStrictlyIncreasing numbers
    → distinct_after [] texts ≡ texts
no_repeat h texts numbers moved rising =
    let pairs = AllPairs-from_increasing numbers rising in
    all_kept h [] texts (λ x. subst (λ n. n ≤ 1) (sum_by-IsPermutation (one_at x) (map h texts) numbers moved) (once x numbers pairs))

pub on_true : {P Q : Type 0} (b : Bool) → (P → Q) → OnTrue b P → OnTrue b Q
on_true true f p = f p
on_true false f p = tt
