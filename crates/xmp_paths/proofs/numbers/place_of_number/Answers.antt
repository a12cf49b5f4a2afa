use Rattle.std.proofs.Common.{◌∙◌, ◌≤◌, sym, subst}
use Rattle.xmp_paths.proofs.Digits.{counts_from_one}
use Rattle.xmp_paths.proofs.numbers.place_of_number.Goals as goal

pub overflow_sub-result : goal.overflow_sub-result
overflow_sub-result c =
    subst (λ n. 1 ≤ n) (sym c.number.ensures) (counts_from_one c.args.digits.now (sym c.is_number.ensures ∙ c.if-is_number.true))
