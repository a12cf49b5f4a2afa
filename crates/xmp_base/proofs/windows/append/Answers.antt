use Rattle.std.proofs.Common.{arith, ap, ℕ, ◌+◌}
use Rattle.std.proofs.lemmas.List.{take_rest, length-drop}
use Rattle.xmp_base.proofs.Ends.{appended_none, appended_len, appended_known, appended_more, appended_failed, appended_all}
use Rattle.xmp_base.proofs.windows.append.Goals as goal

pub loop-done-init : goal.loop-done-init
loop-done-init g c = record { within = omega arith; appended = appended_none _ _ _ c.requires.target }

pub write_at-requires-clause-known : goal.write_at-requires-clause-known
write_at-requires-clause-known g c = appended_known _ _ _ _ _ c.loop-done.invariant.appended

pub write_at-requires-clause-within : goal.write_at-requires-clause-within
write_at-requires-clause-within g c = omega (arith, appended_len _ _ _ _ _ c.loop-done.invariant.appended)

pub returns-in_err-done : goal.returns-in_err-done
returns-in_err-done g c =
    let inv = c.loop-done.invariant in
    record {
      call = appended_failed _ _ _ _ _ inv.appended _ _ (ap (λ (n : ℕ). n + c.loop-done.done) c.requires.at_end) c.in_err-done.field-0.0 _
          (rw (take_rest c.args.piece.now c.loop-done.done) at c.in_err-done.ensures.call) inv.within c.from_residual.ensures.0;
    }

pub loop-done-preserved : goal.loop-done-preserved
loop-done-preserved g c =
    let inv = c.loop-done.invariant in
    let call = rw (take_rest c.args.piece.now c.loop-done.done) at c.in_ok-done.ensures.call in
    record {
      within = omega (arith, call.most, length-drop c.loop-done.done c.args.piece.now);
      appended = appended_more _ _ _ _ _ inv.appended _ _ (ap (λ (n : ℕ). n + c.loop-done.done) c.requires.at_end) _ call;
    }

pub returns : goal.returns
returns g c = record { call = appended_all _ _ _ _ _ c.loop-done.invariant.appended c.loop-done-test.false c.loop-done.invariant.within }
