-- One element of a list, among what stands before and after it.
use Rattle.std.proofs.Common.{◌≡◌, ℕ, suc, ◌+◌, ◌<◌, List, [], ◌∷◌, ◌++◌, length, take, drop, get_or, refl, sym, ap, ◌∙◌, arith, Some, None}
use Rattle.std.specs.Prelude.{slice_get}
use Rattle.std.specs.Option.{option_map}
use Rattle.std.specs.declared.option.Option.{Option}
use Rattle.std.proofs.Math.Seq.{drop-cons, take-suc}
use Rattle.std.proofs.lemmas.List.{length-drop, get_or-drop}
use Rattle.std.proofs.lemmas.Option.{slice_get_within, get_or_from_slice_get, slice_get-get_or}

pub dropped : {A : Type 0} (xs : List A) (i : ℕ) (x : A) → slice_get xs i ≡ Some x → drop i xs ≡ x ∷ drop (i + 1) xs
dropped xs i x h =
    let next : suc i ≡ i + 1 = omega arith in
    drop-cons xs i x (slice_get_within xs i x h) ∙ ap (λ y. y ∷ drop (suc i) xs) (get_or_from_slice_get xs i x x h) ∙ ap (λ (n : ℕ). x ∷ drop n xs) next

pub taken : {A : Type 0} (xs : List A) (i : ℕ) (x : A) → slice_get xs i ≡ Some x → take (i + 1) xs ≡ take i xs ++ x ∷ []
taken xs i x h =
    let next : i + 1 ≡ suc i = omega arith in
    ap (λ (n : ℕ). take n xs) next ∙ take-suc xs i x (slice_get_within xs i x h) ∙ ap (λ y. take i xs ++ y ∷ []) (get_or_from_slice_get xs i x x h)

pub there : {A : Type 0} (xs : List A) (i : ℕ) (x : A) (rest : List A) → drop i xs ≡ x ∷ rest → slice_get xs i ≡ Some x
there xs i x rest h =
    let size : length (drop i xs) ≡ suc (length rest) = ap length h in
    let within : i < length xs = omega (arith, size, length-drop i xs) in
    let same : i ≡ i + 0 = omega arith in
    let is : get_or xs i x ≡ x = ap (λ (n : ℕ). get_or xs n x) same ∙ sym (get_or-drop i xs 0 x) ∙ ap (λ l. get_or l 0 x) h in
    slice_get-get_or xs i x within ∙ ap Some is

-- an element of which a part is told
pub record Told {A B : Type 0} (f : A → B) (o : Option A) (part : B) : Type 0 where
  pub element : A
  pub is : o ≡ Some element
  pub has : f element ≡ part

pub told : {A B : Type 0} (f : A → B) (o : Option A) (part : B) → option_map f o ≡ Some part → Told f o part
told f None part h = absurd (cc h)
told f (Some x) part h = record { element = x; is = refl; has = cc h }
