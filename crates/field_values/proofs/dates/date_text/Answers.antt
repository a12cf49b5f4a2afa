use Rattle.std.proofs.Common.{arith}
use Rattle.field_values.proofs.Written.{date_text-written}
use Rattle.field_values.proofs.dates.date_text.Goals as goal

pub returns-then-exists : goal.returns-then-exists
returns-then-exists c =
    date_text-written c.args.year.now c.args.month.now c.args.day.now _ _ _ _ (omega arith) (omega arith) (omega arith)
    c.in_ok-four_digits.ensures.value c.in_ok-two_digits.ensures.value c.in_ok-two_digits-2.ensures.value
    c.date_exists-exists.ensures c.if-exists.true
