use Rattle.std.proofs.Common.{◌∙◌, ap, refl, sym, subst, Option, Some}
use Rattle.std.specs.Prelude.{slice_get}
use Rattle.std.specs.Option.{option_copied, option_flatten}
use Rattle.mwg_rules.specs.declared.choices.Choice.{Choice}
use Rattle.mwg_rules.specs.Reconciled.{HasChars}
use Rattle.mwg_rules.proofs.Chars.{chosen_at}
use Rattle.mwg_rules.proofs.choices.Choices.get.Goals as goal

pub returns-in-Some-Some-clause-chars : goal.returns-in-Some-Some-clause-chars
returns-in-Some-Some-clause-chars c =
    let there = sym c.get.ensures ∙ ap option_copied c.in-Some-Some.is ∙ ap Some c.in-Some-Some.field-0-is in
    subst (λ (o : Option (Option Choice)). HasChars (option_flatten o)) there (chosen_at c.self.inside.chosen c.number.result (slice_get c.self.inside.chosen c.number.result) refl c.self.invariant)
