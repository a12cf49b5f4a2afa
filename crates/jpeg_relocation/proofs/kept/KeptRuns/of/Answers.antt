use Rattle.std.proofs.Common.{ℕ, ◌∙◌, sym, ap, arith, length}
use Rattle.jpeg_relocation.specs.Relocation.{kept}
use Rattle.jpeg_relocation.specs.Runs.{runs, part}
use Rattle.jpeg_relocation.proofs.Places.{goes_to, before_is, after_is, front_part, back_part, goes_within}
use Rattle.jpeg_relocation.proofs.kept.KeptRuns.of.Goals as goal

pub runs_of-requires-clause-within : goal.runs_of-requires-clause-within
runs_of-requires-clause-within c = omega (arith, c.place_of-place.ensures.is, goes_within c.args.joined.now c.args.regions.now)

pub returns-clause-before : goal.returns-clause-before
returns-clause-before c =
    let joined = c.args.joined.now in
    let regions = c.args.regions.now in
    c.in_ok-before.ensures
    ∙ ap (λ (n : ℕ). runs (kept joined (part regions 0 n))) c.place_of-place.ensures.is
    ∙ ap (λ rs. runs (kept joined rs)) (front_part (goes_to joined regions) regions)
    ∙ sym (ap runs (before_is joined regions))

pub returns-clause-after : goal.returns-clause-after
returns-clause-after c =
    let joined = c.args.joined.now in
    let regions = c.args.regions.now in
    c.in_ok-after.ensures
    ∙ ap (λ (n : ℕ). runs (kept joined (part regions c.place_of-place.result.region n))) c.len.ensures
    ∙ ap (λ (n : ℕ). runs (kept joined (part regions n (length regions)))) c.place_of-place.ensures.is
    ∙ ap (λ rs. runs (kept joined rs)) (back_part (goes_to joined regions) regions (goes_within joined regions))
    ∙ sym (ap runs (after_is joined regions))
