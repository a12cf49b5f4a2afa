use Rattle.std.proofs.Common.{length, ap, sym, arith}
use Rattle.std.proofs.lemmas.List.Sums.{position_or_len_is}
use Rattle.xmp_edit.specs.Lines.{is_space}
use Rattle.xmp_edit.proofs.words.space_at.Goals as goal

pub returns-then-text-at-eq32-clause-first : goal.returns-then-text-at-eq32-clause-first
returns-then-text-at-eq32-clause-first c =
    sym (position_or_len_is is_space c.args.text.now c.loop-at.at 0 (omega arith) c.loop-at.invariant (λ _. ap is_space c.if-text-at-eq32.true))

pub returns-clause-first : goal.returns-clause-first
returns-clause-first c =
    sym (position_or_len_is is_space c.args.text.now (length c.args.text.now) 0 (omega arith) (λ k below. c.loop-at.invariant k (omega arith)) (λ beyond. absurd (omega arith)))
