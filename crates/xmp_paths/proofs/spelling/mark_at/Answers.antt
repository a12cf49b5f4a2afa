use Rattle.std.proofs.Common.{◌∙◌, length, sym, arith}
use Rattle.std.proofs.lemmas.List.Sums.{position_or_len_is}
use Rattle.xmp_paths.specs.Grammar.{is_mark}
use Rattle.xmp_paths.proofs.spelling.mark_at.Goals as goal

pub returns-then-is_mark-clause-first : goal.returns-then-is_mark-clause-first
returns-then-is_mark-clause-first c =
    sym (position_or_len_is is_mark c.args.text.now c.loop-at.at 0 (omega arith) c.loop-at.invariant (λ _. (sym c.is_mark.ensures ∙ c.if-is_mark.true)))

pub returns-clause-first : goal.returns-clause-first
returns-clause-first c =
    sym (position_or_len_is is_mark c.args.text.now (length c.args.text.now) 0 (omega arith) (λ k below. c.loop-at.invariant k (omega arith)) (λ beyond. absurd (omega arith)))
