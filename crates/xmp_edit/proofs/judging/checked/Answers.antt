use Rattle.std.proofs.Common.{◌∙◌, length, arith, ap, sym}
use Rattle.xmp_edit.proofs.Judged.{allowed_edit}
use Rattle.xmp_edit.proofs.judging.checked.Goals as goal

pub returns-clause-allowed : goal.returns-clause-allowed
returns-clause-allowed c =
    let shallow = c.if-steps-levels_of-gt23.false in
    let steps = ap length c.steps.ensures.steps in
    let levels = c.levels_of.ensures in
    allowed_edit c.args.line c.args.action c.args.path c.steps.ensures.allowed (sym c.may_end.ensures ∙ c.if-not-may_end.false) (sym c.has_chars.ensures ∙ c.if-not-has_chars.false)
    (sym c.has_tags.ensures ∙ c.if-not-has_tags.false) (omega (arith, shallow, steps, levels))
