use Rattle.std.proofs.Common.{refl, ◌∙◌, ◌+◌}
use Rattle.xmp_values.specs.declared.hints.Hint.{Hint}
use Rattle.xmp_write.proofs.GivingSteps.{given_numbered}
use Rattle.xmp_write.proofs.giving.Given.push_number.Goals as goal

pub returns-clause-kept : goal.returns-clause-kept
returns-clause-kept c =
    let hint : Hint = record { space = c.args.space.now; prefix = c.as_slice.result.now } in
    let given = c.push_hint.new.self in
    let told = c.in_ok-number.ensures in
    given_numbered c.args.hints.now c.args.self.now (record { list = given.list; taken = given.taken; next = c.in_ok-number.number + 1 }) hint c.in_ok-number.number
    c.requires told.least told.small told.free (c.as_slice.ensures.value ∙ c.in_ok-prefix.ensures) c.in_ok-push_hint.ensures.given c.push_hint.ensures.taken refl
