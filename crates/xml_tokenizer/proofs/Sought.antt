-- A run and what is left of it; a front that was read before.
use Rattle.std.proofs.Common.{◌≡◌, ℕ, Bool, true, false, cond, List, [], ◌∷◌, ◌++◌, Option, Some, None, refl, sym, ap, append_assoc}
use Rattle.xml_tokenizer.specs.Runs.{taken, past, with_front}

pub taken_past : (p : ℕ → Bool) (cs : List ℕ) → cs ≡ taken p cs ++ past p cs
taken_past p [] = refl
taken_past p (c ∷ cs) = by_test (p c) refl (taken_past p cs)
  where
    by_test : (v : Bool) → p c ≡ v → cs ≡ taken p cs ++ past p cs → c ∷ cs ≡ cond v (c ∷ taken p cs) [] ++ cond v (past p cs) (c ∷ cs)
    by_test true e ih = ap (λ (x : List ℕ). c ∷ x) ih
    by_test false e ih = refl

pub with_nothing : (read : Option (List ℕ × List ℕ)) → with_front [] read ≡ read
with_nothing None = refl
with_nothing (Some x) = refl

pub with_both : (a b : List ℕ) (read : Option (List ℕ × List ℕ)) → with_front a (with_front b read) ≡ with_front (a ++ b) read
with_both a b None = refl
with_both a b (Some x) = ap (λ (s : List ℕ). Some (s, x.1)) (sym (append_assoc a b x.0))
