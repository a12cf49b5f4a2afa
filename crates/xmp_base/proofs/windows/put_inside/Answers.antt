use Rattle.std.proofs.Common.{arith}
use Rattle.std.proofs.lemmas.List.{take_rest, length-drop}
use Rattle.xmp_base.proofs.Exchanges.{put_none, put_more, put_torn, put_all}
use Rattle.xmp_base.proofs.windows.put_inside.Goals as goal

pub loop-done-init : goal.loop-done-init
loop-done-init g c = record { within = omega arith; put = put_none _ _ _ _ }

pub returns-in_err-done : goal.returns-in_err-done
returns-in_err-done g c =
    let inv = c.loop-done.invariant in
    record {
      call = put_torn _ _ _ _ _ _ inv.put c.requires.known c.requires.within _ c.in_err-done.field-0.0 _ c.loop-done-test.true
          (rw (take_rest c.args.piece.now c.loop-done.done) at c.in_err-done.ensures.call) c.from_residual.ensures.0;
    }

pub loop-done-preserved : goal.loop-done-preserved
loop-done-preserved g c =
    let inv = c.loop-done.invariant in
    let call = rw (take_rest c.args.piece.now c.loop-done.done) at c.in_ok-done.ensures.call in
    record {
      within = omega (arith, call.most, inv.within, length-drop c.loop-done.done c.args.piece.now);
      put = put_more _ _ _ _ _ _ inv.put c.requires.known c.requires.within _ _ c.loop-done-test.true call;
    }

pub returns : goal.returns
returns g c = record { call = put_all _ _ _ _ _ _ c.loop-done.invariant.put c.requires.known c.requires.within c.loop-done-test.false c.loop-done.invariant.within }
