use Rattle.std.proofs.Common.{◌∙◌, ℕ, List, subst}
use Rattle.xmp_files.specs.Planneds.{AmongAnswer}
use Rattle.xmp_files.proofs.BothTexts.{divided_result}
use Rattle.xmp_files.proofs.dividing.with_both.Goals as goal

pub returns-clause-step : goal.returns-clause-step
returns-clause-step c =
    divided_result c.args.regions.now c.args.joined.now c.args.tree.now c.args.hints.now c.in-Ok.split c.in-Ok.ensures c.if-split-gt-PACKET_LIMIT.false c.put_among.result
    (subst (λ (l : List ℕ). AmongAnswer c.args.regions.now c.args.joined.now l c.put_among.result) (c.from_vec.ensures ∙ c.in_ok-segments.ensures) c.put_among.ensures.step)
