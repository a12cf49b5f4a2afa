use Rattle.std.proofs.Common.{◌∙◌, ◌+◌, drop, sym, ap}
use Rattle.xmp_paths.specs.Grammar.{pieces, spelled_step, spelled_steps}
use Rattle.xmp_paths.proofs.Collected.{after}
use Rattle.xmp_paths.proofs.Pieces.{steps_none, steps_more, steps_same}
use Rattle.xmp_paths.proofs.spelling.spelled_steps.Goals as goal
use Rattle.xmp_paths.proofs.spelling.spelled_steps.Goals.{then-is_mark+in-Some+in_ok-push-in-Some, else-is_mark}

pub returns-in-None : goal.returns-in-None
returns-in-None c =
    sym (steps_none c.args.text.now c.loop-at.at c.loop-at-test.true c.loop-at.steps (sym c.is_mark.ensures ∙ c.if-is_mark.true)
    (ap spelled_step (sym c.piece_at.ensures) ∙ sym c.spelled_step.ensures ∙ c.in-None.is)) ∙ c.loop-at.invariant

pub loop-at-preserved : goal.loop-at-preserved
loop-at-preserved c =
    elim c.if-is_mark.branch [
      | then-is_mark+in-Some+in_ok-push-in-Some w ↦
          ap (λ ss. after ss (spelled_steps (pieces (drop (c.loop-at.at + 1) c.args.text.now)))) (w.steps-is ∙ w.in_ok-push-in-Some.ensures.ok)
          ∙ sym (steps_more c.args.text.now c.loop-at.at c.loop-at-test.true c.loop-at.steps w.in-Some.step (sym c.is_mark.ensures ∙ w.if-is_mark.true)
          (ap spelled_step (sym w.piece_at.ensures) ∙ sym w.spelled_step.ensures ∙ w.in-Some.is)) ∙ c.loop-at.invariant
      | else-is_mark w ↦
          ap (λ ss. after ss (spelled_steps (pieces (drop (c.loop-at.at + 1) c.args.text.now)))) w.steps-is
          ∙ sym (steps_same c.args.text.now c.loop-at.at c.loop-at-test.true c.loop-at.steps (sym c.is_mark.ensures ∙ w.if-is_mark.false)) ∙ c.loop-at.invariant
    ]
