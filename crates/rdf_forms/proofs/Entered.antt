-- What entering one name in a set gives.
use Rattle.std.proofs.Common.{◌≡◌, ◌↔◌, ◌⊎◌, Bool, true, false, ◌||◌, ◌&&◌, List, [], ◌∷◌, ◌++◌, refl, ap, sym, subst, ◌∙◌, inl, inr, ⊎_elim}
use Rattle.std.specs.Prelude.{Contains, MatchBool, not, cond, codes}
use Rattle.std.proofs.lemmas.Bool.{false_from_ne_true}
use Rattle.std.proofs.lemmas.List.Elements.{Contains-append_left, Contains-push, Contains-push_cases}
use Rattle.xmp_values.specs.declared.text.Name.{Name}
use Rattle.rdf_forms.specs.Words.{is_rdf}
use Rattle.rdf_forms.specs.Entering.{Holds, clashes, entered}
use Rattle.rdf_forms.proofs.Clashes.{stands, stands_is, clashes-cons}

pub holds_itself : (names : List Name) → Holds names names
holds_itself names n = (λ h. h, λ h. h)

entered-in : (without : Bool) (n : Name) → (without && is_rdf (codes "value") n) ≡ false → entered without (n ∷ []) ≡ n ∷ []
entered-in true n is = ap (λ (b : Bool). cond (not b) (n ∷ []) []) is
entered-in false n is = refl

no_more : (b : Bool) → (b || false) ≡ b
no_more true = refl
no_more false = refl

clashes-one : (n : Name) (names : List Name) → clashes (n ∷ []) names ≡ stands n names
clashes-one n names = clashes-cons n [] names ∙ no_more (stands n names)

pub is_new : (b : Bool) (n : Name) (names : List Name) → MatchBool b (Contains names n → ⊥) (Contains names n) → b ≡ not (stands n names)
is_new true n names new = sym (ap not (false_from_ne_true (stands n names) (λ e. new ((stands_is n names).0 e))))
is_new false n names there = sym (ap not ((stands_is n names).1 there))

pub holds_more : (n : Name) (names more : List Name) → ((m : Name) → Contains more m ↔ (Contains names m ⊎ (m ≡ n))) → Holds more (names ++ n ∷ [])
holds_more n names more adds m = (
  λ h. ⊎_elim (Contains-append_left names (n ∷ []) m) (λ e. subst (Contains (names ++ n ∷ [])) (sym e) (Contains-push names n)) ((adds m).0 h),
  λ h. (adds m).1 (⊎_elim inl (λ e. inr (sym e)) (Contains-push_cases names n m h)),
)

-- a name that is entered
module _ (without : Bool) (n : Name) (within : (without && is_rdf (codes "value") n) ≡ false) (key : Name) (keyed : key ≡ n) (names : List Name) where
  pub in-apart : (b : Bool) → MatchBool b (Contains names key → ⊥) (Contains names key) → b ≡ not (clashes (entered without (n ∷ [])) names)
  in-apart b new =
      is_new b key names new ∙ ap (λ m. not (stands m names)) keyed ∙ sym (ap not (clashes-one n names))
      ∙ sym (ap (λ ns. not (clashes ns names)) (entered-in without n within))

  pub in-holds : (more : List Name) → ((m : Name) → Contains more m ↔ (Contains names m ⊎ (m ≡ key))) → Holds more (names ++ entered without (n ∷ []))
  in-holds more adds =
      subst (λ ns. Holds more (names ++ ns)) (ap (λ m. m ∷ []) keyed ∙ sym (entered-in without n within)) (holds_more key names more adds)
