-- A list of hints with one more.
use Rattle.std.proofs.Common.{◌≡◌, ℕ, ◌<◌, List, [], ◌∷◌, ◌++◌, length, get_or, zero, suc, Bool, true, false, refl, sym, ap, subst, ◌∙◌, ⊎_elim, arith}
use Rattle.std.specs.Prelude.{IsTrue, not}
use Rattle.std.specs.Str.{bytes_eq}
use Rattle.std.proofs.lemmas.Bool.{or_cases, or_left, or_right}
use Rattle.std.proofs.lemmas.Grind.{common_steps}
use Rattle.std.proofs.lemmas.Slice.Eq.{bytes_eq-Decides}
use Rattle.std.proofs.lemmas.List.Elements.{All-nil, All-cons, All-append}
use Rattle.std.proofs.lemmas.List.Quantifiers.{all_pairs_push}
use Rattle.xmp_values.specs.declared.hints.Hint.{Hint}
use Rattle.xmp_values.specs.Hints.{IsValidHint, AreValid, has_space}

-- a hint of the namespace stands at a place
abbrev IsAt : List Hint → List ℕ → ℕ → Type 0
IsAt hs space k = (k < length hs) × ((d : Hint) → (get_or hs k d).space ≡ space)

found : (hs : List Hint) (space : List ℕ) → has_space hs space ≡ true → (k : ℕ) × IsAt hs space k
found [] space e = absurd cc
found (h ∷ hs) space e = ⊎_elim
    (λ here. (zero, (omega arith, λ d. sym ((bytes_eq-Decides space h.space).0 here))))
    (λ there. let k = found hs space there in (suc k.0, (omega (arith, k.1.0), λ d. k.1.1 d)))
    (or_cases (bytes_eq space h.space) (has_space hs space) e)

told : (hs : List Hint) (space : List ℕ) (k : ℕ) (d : Hint) → k < length hs → (get_or hs k d).space ≡ space → has_space hs space ≡ true
told [] space k d within same = absurd (omega (arith, within))
told (h ∷ hs) space zero d within same = or_left (bytes_eq space h.space) (has_space hs space) ((bytes_eq-Decides space h.space).1 (sym same))
told (h ∷ hs) space (suc k) d within same = or_right (bytes_eq space h.space) (has_space hs space) (told hs space k d (omega (arith, within)) same)

module _ (hs : List Hint) (h : Hint) where
  at_end : (d : Hint) → get_or (hs ++ h ∷ []) (length hs) d ≡ h
  at_end d = grind (arith, common_steps)

  past : length hs < length (hs ++ h ∷ [])
  past = grind (arith, common_steps)

  before : (k : ℕ) (d : Hint) → k < length hs → get_or (hs ++ h ∷ []) k d ≡ get_or hs k d
  before k d within = grind (arith, common_steps)

  pub valid_more : AreValid hs → IsValidHint h → has_space hs h.space ≡ false → AreValid (hs ++ h ∷ [])
  valid_more old valid new = record {
    apart = all_pairs_push (λ g h. g.space ≡ h.space → ⊥) hs h old.apart
        (λ k d within same. let is = told hs h.space k d within same in let no : true ≡ false = sym is ∙ new in absurd cc);
    each = All-append IsValidHint hs (h ∷ []) old.each (All-cons IsValidHint h [] valid (All-nil IsValidHint));
  }

  pub valid_last : AreValid (hs ++ h ∷ []) → IsValidHint h
  valid_last valid = subst IsValidHint (at_end h) (valid.each (length hs) h past)

  pub new_last : AreValid (hs ++ h ∷ []) → has_space hs h.space ≡ true → ⊥
  new_last valid is =
      let k = found hs h.space is in
      valid.apart k.0 (length hs) h k.1.0 past (ap (λ g. g.space) (before k.0 h k.1.0) ∙ k.1.1 h ∙ sym (ap (λ g. g.space) (at_end h)))

  -- whether the list stays valid is told by whether the namespace is there
  pub stays_valid : (here : Bool) → here ≡ has_space hs h.space → AreValid hs → IsValidHint h
      → (IsTrue (not here) → AreValid (hs ++ h ∷ [])) × (AreValid (hs ++ h ∷ []) → IsTrue (not here))
  stays_valid true e old valid = (λ no. absurd cc, λ all. absurd (new_last all (sym e)))
  stays_valid false e old valid = (λ yes. valid_more old valid (sym e), λ all. refl)
