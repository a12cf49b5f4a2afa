-- The first item that passes a test, by its place, and the items that don't pass.
use Rattle.std.proofs.Common.{ℕ, zero, suc, ◌≡◌, ◌≤◌, cond, Bool, true, false, List, [], ◌∷◌, length, refl, ap, sym, ◌∙◌, arith}
use Rattle.std.specs.Prelude.{Option, Some, None, slice_get, find, filter, position, nat_lt, remove}
use Rattle.std.specs.List.{position_or_len}
use Rattle.std.proofs.lemmas.List.Folds.{find_at}
use Rattle.std.proofs.lemmas.Option.{slice_get_past}
use Rattle.std.proofs.lemmas.Bool.Decides.{nat_tests}

place_of : (b : Bool) (n i : ℕ) → Some i ≡ cond b (Some n) None → n ≡ i
place_of true n i is = cc
place_of false n i is = absurd cc

pub find-at : {X : Type 0} (p : X → Bool) (xs : List X) (i : ℕ) (x : X) → Some i ≡ position p xs → slice_get xs i ≡ Some x → find p xs ≡ Some x
find-at p xs i x at there =
    find_at p xs ∙ ap (slice_get xs) (place_of (nat_lt (position_or_len p xs) (length xs)) (position_or_len p xs) i at) ∙ there

past : (b : Bool) (n : ℕ) → None ≡ cond b (Some n) None → b ≡ false
past true n is = absurd cc
past false n is = refl

pub find-none : {X : Type 0} (p : X → Bool) (xs : List X) → None ≡ position p xs → find p xs ≡ None
find-none p xs none =
    let over = past (nat_lt (position_or_len p xs) (length xs)) (position_or_len p xs) none in
    let far : length xs ≤ position_or_len p xs = grind (arith, nat_tests, over) in
    find_at p xs ∙ slice_get_past xs (position_or_len p xs) far

passes_by : {X : Type 0} (p : X → Bool) (y x : X) (found : Option X) (b : Bool) → p y ≡ b → cond b (Some y) found ≡ Some x → (found ≡ Some x → p x ≡ true) → p x ≡ true
passes_by p y x found true passes here there = let same : y ≡ x = cc in ap p (sym same) ∙ passes
passes_by p y x found false passes here there = there here

pub find-passes : {X : Type 0} (p : X → Bool) (xs : List X) (x : X) → find p xs ≡ Some x → p x ≡ true
find-passes p [] x is = absurd cc
find-passes p (y ∷ ys) x is = passes_by p y x (find p ys) (p y) refl is (find-passes p ys x)

-- without an item that doesn't pass
pub filter-remove : {X : Type 0} (p : X → Bool) (xs : List X) (i : ℕ) (x : X) → slice_get xs i ≡ Some x → p x ≡ false → filter p (remove xs i) ≡ filter p xs
filter-remove p [] i x is fails = absurd cc
filter-remove p (y ∷ ys) zero x is fails =
    let here : y ≡ x = cc in
    let same : p y ≡ false = ap p here ∙ fails in
    sym (ap (λ b. cond b (y ∷ filter p ys) (filter p ys)) same)
filter-remove p (y ∷ ys) (suc i) x is fails = ap (λ zs. cond (p y) (y ∷ zs) zs) (filter-remove p ys i x is fails)
