use Rattle.std.proofs.Common.{ap, ◌∙◌}
use Rattle.xmp_values.specs.declared.hints.Hint.{Hint}
use Rattle.xmp_write.proofs.GivingSteps.{given_kept_ok}
use Rattle.xmp_write.proofs.giving.Given.push.Goals as goal

pub returns-clause-kept : goal.returns-clause-kept
returns-clause-kept c =
    let hint : Hint = record { space = c.args.space.now; prefix = c.args.prefix.now } in
    given_kept_ok c.args.hints.now c.args.self.now c.push_hint.new.self c.push_hint.result c.in_ok-from_slice.field-0 hint c.requires
    c.in_ok-from_slice.ensures.items (ap (λ set. set.keys) c.push_hint.ensures.taken ∙ c.in_ok-insert.ensures.keys) c.push_hint.ensures.given c.push_hint.ensures.next
