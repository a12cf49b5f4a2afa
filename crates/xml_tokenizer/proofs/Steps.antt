-- Tests, steps of reading, and runs.
use Rattle.std.proofs.Common.{◌≡◌, ℕ, Bool, true, false, cond, not, ◌||◌, ◌⊎◌, List, [], ◌∷◌, ◌++◌, Option, Some, None, refl, ap, inl, inr}
use Rattle.std.specs.Prelude.{IsTrue}
use Rattle.std.specs.List.{list_all}
use Rattle.xml_grammar.proofs.Splits.{both, all_cons, Stops}
use Rattle.xml_tokenizer.specs.Runs.{taken, past}
use Rattle.std.specs.Option.{option_or}
use Rattle.xml_tokenizer.specs.Steps.{◌>>=◌}

-- ---- tests

pub or_false : (a b : Bool) → (a || b) ≡ false → (a ≡ false) × (b ≡ false)
or_false true b e = absurd cc
or_false false b e = (refl, e)

pub not_true : (a : Bool) → not a ≡ true → a ≡ false
not_true true e = absurd cc
not_true false e = refl

-- ---- steps

pub bind_some : {A B : Type 0} (r : Option A) (f : A → Option B) (y : B) → (r >>= f) ≡ Some y → (x : A) × (r ≡ Some x) × (f x ≡ Some y)
bind_some (Some x) f y e = (x, refl, e)
bind_some None f y e = absurd cc

abbrev some : {A : Type 0} → A → Option A
some x = Some x

pub some_is : {A : Type 0} (x y : A) → some x ≡ some y → x ≡ y
some_is x y e = cc

-- a test that let through
pub passed : {A : Type 0} (b : Bool) (r : Option A) (y : A) → cond b r None ≡ Some y → (b ≡ true) × (r ≡ Some y)
passed true r y e = (refl, e)
passed false r y e = absurd cc

pub not_stopped : {A : Type 0} (b : Bool) (r : Option A) (y : A) → cond b None r ≡ Some y → (b ≡ false) × (r ≡ Some y)
not_stopped true r y e = absurd cc
not_stopped false r y e = (refl, e)

-- which way a test went
pub chosen : {A : Type 0} (b : Bool) (x y z : A) → cond b x y ≡ z → ((b ≡ true) × (x ≡ z)) ⊎ ((b ≡ false) × (y ≡ z))
chosen true x y z e = inl (refl, e)
chosen false x y z e = inr (refl, e)

pub either_gave : {A : Type 0} (r s : Option A) (y : A) → option_or r s ≡ Some y → (r ≡ Some y) ⊎ ((r ≡ None) × (s ≡ Some y))
either_gave (Some x) s y e = inl e
either_gave None s y e = inr (refl, e)

-- ---- runs

pub taken_all : (p : ℕ → Bool) (cs : List ℕ) → IsTrue (list_all p (taken p cs))
taken_all p [] = refl
taken_all p (c ∷ cs) = by_test (p c) refl (taken_all p cs)
  where
    by_test : (v : Bool) → p c ≡ v → IsTrue (list_all p (taken p cs)) → IsTrue (list_all p (cond v (c ∷ taken p cs) []))
    by_test true e ih = all_cons p c (taken p cs) e ih
    by_test false e ih = refl

pub past_stops : (p : ℕ → Bool) (cs : List ℕ) → Stops p (past p cs)
past_stops p [] = tt
past_stops p (c ∷ cs) = by_test (p c) refl (past_stops p cs)
  where
    by_test : (v : Bool) → p c ≡ v → Stops p (past p cs) → Stops p (cond v (past p cs) (c ∷ cs))
    by_test true e ih = ih
    by_test false e ih = e

pub nothing_taken : (p : ℕ → Bool) (cs : List ℕ) → Stops p cs → (taken p cs ≡ []) × (past p cs ≡ cs)
nothing_taken p [] s = (refl, refl)
nothing_taken p (c ∷ cs) s = (rw s refl, rw s refl)

pub run_again : (p : ℕ → Bool) (front back : List ℕ) → IsTrue (list_all p front) → Stops p back → (taken p (front ++ back) ≡ front) × (past p (front ++ back) ≡ back)
run_again p [] back h s = nothing_taken p back s
run_again p (c ∷ front) back h s =
    let k = both (p c) (list_all p front) h in
    let ih = run_again p front back k.1 s in
    (rw (k.0) (ap (λ (x : List ℕ). c ∷ x) ih.0), rw (k.0) ih.1)
