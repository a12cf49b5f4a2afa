-- The fields of a number, one after another.
use Rattle.std.proofs.Common.{◌≡◌, ℕ, zero, suc, ◌+◌, ◌<◌, List, [], ◌∷◌, ◌++◌, length, drop, Option, Some, refl, sym, ap, ◌∙◌, arith}
use Rattle.std.specs.Prelude.{slice_get}
use Rattle.std.specs.Option.{option_or, option_and_then, option_to_list}
use Rattle.field_values.specs.FieldTexts.{field_text}
use Rattle.irb_iptc.specs.Datasets.{Field}
use Rattle.irb_iptc.specs.Fields.{bytes_for, first_of, texts_of}

here : (fs : List Field) (i : ℕ) → i < length fs → (f : Field) × (slice_get fs i ≡ Some f) × (drop i fs ≡ f ∷ drop (i + 1) fs)
here [] i h = absurd (omega arith)
here (f ∷ fs) zero h = (f, refl, refl)
here (f ∷ fs) (suc i) h =
    let k = here fs i (omega arith) in
    let e : suc (i + 1) ≡ suc i + 1 = omega arith in
    (k.0, k.1, k.2 ∙ ap (λ (n : ℕ). k.0 ∷ drop n (f ∷ fs)) e)

pub first_step : (n : ℕ) (fs : List Field) (i : ℕ) (r : Option (List ℕ)) → i < length fs → r ≡ option_and_then (bytes_for n) (slice_get fs i)
    → first_of n (drop i fs) ≡ option_or r (first_of n (drop (i + 1) fs))
first_step n fs i r h e =
    let k = here fs i h in
    ap (first_of n) k.2 ∙ ap (λ (o : Option (List ℕ)). option_or o (first_of n (drop (i + 1) fs))) (sym (e ∙ ap (option_and_then (bytes_for n)) k.1))

pub texts_step : (n : ℕ) (fs : List Field) (i : ℕ) (r : Option (List ℕ)) → i < length fs → r ≡ option_and_then field_text (option_and_then (bytes_for n) (slice_get fs i))
    → texts_of n (drop i fs) ≡ option_to_list r ++ texts_of n (drop (i + 1) fs)
texts_step n fs i r h e =
    let k = here fs i h in
    ap (texts_of n) k.2 ∙ ap (λ (o : Option (List ℕ)). option_to_list o ++ texts_of n (drop (i + 1) fs)) (sym (e ∙ ap (λ o. option_and_then field_text (option_and_then (bytes_for n) o)) k.1))
