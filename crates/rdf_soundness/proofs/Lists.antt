-- Lists: what a test finds, and what differs in a map.
use Rattle.std.proofs.Common.{◌≡◌, Bool, true, false, cond, ◌||◌, ◌⊎◌, inl, inr, List, [], ◌∷◌, map, Some, None, refl, ap, ◌∙◌, arith}
use Rattle.std.specs.Prelude.{All, AllPairs, find, filter}
use Rattle.std.specs.List.{list_any}
use Rattle.std.proofs.lemmas.Bool.{or_parts, both_ways}
use Rattle.std.proofs.lemmas.List.{get_or-map, length-map}
use Rattle.std.proofs.lemmas.List.Elements.{All-nil, All-cons, All-head, All-tail}

-- no element passes
pub none_pass : {X : Type 0} (p : X → Bool) (xs : List X) → list_any p xs ≡ false → All (λ x. p x ≡ false) xs
none_pass p [] h = All-nil (λ x. p x ≡ false)
none_pass p (x ∷ xs) h =
    let parts = or_parts (p x) (list_any p xs) h in All-cons (λ x. p x ≡ false) x xs parts.0 (none_pass p xs parts.1)

-- the first element that passes, if there is one
abbrev pub Found : {X : Type 0} → (X → Bool) → (X → Type 0) → List X → Type 0
Found {X} p P xs =
    ((find p xs ≡ None) × (list_any p xs ≡ false)) ⊎ ((x : X) × (find p xs ≡ Some x) × (list_any p xs ≡ true) × (p x ≡ true) × P x)

pub found : {X : Type 0} (p : X → Bool) (P : X → Type 0) (xs : List X) → All P xs → Found p P xs
found p P [] h = inl (refl, refl)
found {X} p P (x ∷ xs) h = by (p x) refl (found p P xs (All-tail P x xs h))
  where
    by : (b : Bool) → p x ≡ b → Found p P xs → ((cond b (Some x) (find p xs) ≡ None) × ((b || list_any p xs) ≡ false)) ⊎ ((y : X) × (cond b (Some x) (find p xs) ≡ Some y) × ((b || list_any p xs) ≡ true) × (p y ≡ true) × P y)
    by true is rest = inr (x, refl, refl, is, All-head P x xs h)
    by false is rest = rest

-- a filter that drops nothing
pub filter_all : {X : Type 0} (p : X → Bool) (xs : List X) → All (λ x. p x ≡ true) xs → filter p xs ≡ xs
filter_all p [] h = refl
filter_all p (x ∷ xs) h = ap (λ b. cond b (x ∷ filter p xs) (filter p xs)) (All-head (λ x. p x ≡ true) x xs h) ∙ ap (λ ys. x ∷ ys) (filter_all p xs (All-tail (λ x. p x ≡ true) x xs h))

pub filter_none : {X : Type 0} (p : X → Bool) (xs : List X) → All (λ x. p x ≡ false) xs → filter p xs ≡ []
filter_none p [] h = refl
filter_none p (x ∷ xs) h =
    ap (λ b. cond b (x ∷ filter p xs) (filter p xs)) (All-head (λ x. p x ≡ false) x xs h)
    ∙ filter_none p xs (All-tail (λ x. p x ≡ false) x xs h)

pub filter-map : {X Y : Type 0} (f : X → Y) (p : Y → Bool) (xs : List X) → filter p (map f xs) ≡ map f (filter (λ x. p (f x)) xs)
filter-map f p [] = refl
filter-map {X} {Y} f p (x ∷ xs) = by (p (f x)) (filter-map f p xs)
  where
    kept : List X
    kept = filter (λ x. p (f x)) xs

    by : (b : Bool) → filter p (map f xs) ≡ map f kept → cond b (f x ∷ filter p (map f xs)) (filter p (map f xs)) ≡ map f (cond b (x ∷ kept) kept)
    by true rest = ap (λ ys. f x ∷ ys) rest
    by false rest = rest

pub list_any-map : {X Y : Type 0} (f : X → Y) (p : Y → Bool) (xs : List X) → list_any p (map f xs) ≡ list_any (λ x. p (f x)) xs
list_any-map f p [] = refl
list_any-map f p (x ∷ xs) = ap (λ b. p (f x) || b) (list_any-map f p xs)

-- elements whose images differ
pub pairs_from_map : {X Y : Type 0} (R : Y → Y → Type 0) (f : X → Y) (xs : List X) → AllPairs R (map f xs) → AllPairs (λ x y. R (f x) (f y)) xs
pairs_from_map R f xs h i j d lt within =
    let first = get_or-map f xs i d (f d) (omega arith) in
    let second = get_or-map f xs j d (f d) within in
    rw (← first, ← second) (h i j (f d) lt (omega (arith, length-map xs f)))

pub list_any_same : {X : Type 0} (p q : X → Bool) → ((x : X) → p x ≡ q x) → (xs : List X) → list_any p xs ≡ list_any q xs
list_any_same p q same [] = refl
list_any_same p q same (x ∷ xs) = ap (λ b. b || list_any p xs) (same x) ∙ ap (λ b. q x || b) (list_any_same p q same xs)

-- what holds of all that a filter keeps
pub from_filter : {X : Type 0} (p : X → Bool) (P : X → Type 0) (xs : List X) → All P (filter p xs) → All (λ x. p x ≡ true → P x) xs
from_filter p P [] h = All-nil (λ x. p x ≡ true → P x)
from_filter {X} p P (x ∷ xs) h = by (p x) refl h (from_filter p P xs)
  where
    by : (b : Bool) → p x ≡ b → All P (cond b (x ∷ filter p xs) (filter p xs)) → (All P (filter p xs) → All (λ y. p y ≡ true → P y) xs) → All (λ y. p y ≡ true → P y) (x ∷ xs)
    by true is h rest = All-cons (λ y. p y ≡ true → P y) x xs (λ passes. All-head P x (filter p xs) h) (rest (All-tail P x (filter p xs) h))
    by false is h rest = All-cons (λ y. p y ≡ true → P y) x xs (λ passes. absurd (both_ways (p x) is passes)) (rest h)
