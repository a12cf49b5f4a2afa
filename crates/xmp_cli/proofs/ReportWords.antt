-- The report of each outcome.
use Rattle.std.proofs.Common.{◌≡◌, ◌∙◌, ℕ, List, sym, ap, refl}
use Rattle.std.specs.Prelude.{codes}
use Rattle.xmp_files.specs.declared.plans.Outcome.{Outcome}
use Rattle.xmp_files.specs.declared.plans.Outcome.TheVariants as outcomes
use Rattle.xmp_files.specs.Planning.{Plan, Same, InPlace, Relocated}
use Rattle.xmp_files.specs.Plans.{planned_len}
use Rattle.xmp_files.specs.Planneds.{outcome_of}
use Rattle.xmp_cli.specs.Reports.{one_length, two_lengths, report}

same_by : (size : ℕ) (plan : Plan) → outcome_of plan ≡ outcomes.Same → one_length (codes "same") size ≡ report size plan
same_by size Same e = refl
same_by size (InPlace pieces) e = absurd (cc e)
same_by size (Relocated parts) e = absurd (cc e)

in_place_by : (size : ℕ) (plan : Plan) → outcome_of plan ≡ outcomes.InPlace → one_length (codes "in-place") size ≡ report size plan
in_place_by size Same e = absurd (cc e)
in_place_by size (InPlace pieces) e = refl
in_place_by size (Relocated parts) e = absurd (cc e)

relocated_by : (size : ℕ) (plan : Plan) → outcome_of plan ≡ outcomes.Relocated → two_lengths (codes "relocated") size (planned_len size plan) ≡ report size plan
relocated_by size Same e = absurd (cc e)
relocated_by size (InPlace pieces) e = absurd (cc e)
relocated_by size (Relocated parts) e = refl

module _ (size : ℕ) (plan : Plan) (outcome : Outcome) (is : outcome ≡ outcome_of plan) (bytes : List ℕ) where
  pub report_same : (old : ℕ) → outcome ≡ outcomes.Same → old ≡ size → bytes ≡ one_length (codes "same") old → bytes ≡ report size plan
  report_same old e same b = b ∙ ap (one_length (codes "same")) same ∙ same_by size plan (sym is ∙ e)

  pub report_in_place : (old : ℕ) → outcome ≡ outcomes.InPlace → old ≡ size → bytes ≡ one_length (codes "in-place") old → bytes ≡ report size plan
  report_in_place old e same b = b ∙ ap (one_length (codes "in-place")) same ∙ in_place_by size plan (sym is ∙ e)

  pub report_relocated : (old new : ℕ) → outcome ≡ outcomes.Relocated → old ≡ size → new ≡ planned_len size plan → bytes ≡ two_lengths (codes "relocated") old new → bytes ≡ report size plan
  report_relocated old new e same len b =
      b ∙ ap (λ (n : ℕ). two_lengths (codes "relocated") n new) same ∙ ap (two_lengths (codes "relocated") size) len ∙ relocated_by size plan (sym is ∙ e)
