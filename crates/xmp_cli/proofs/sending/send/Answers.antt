use Rattle.std.proofs.Common.{length, subst, ap, List, ℕ, Ok, arith}
use Rattle.std.proofs.lemmas.List.{length-drop, take_rest}
use Rattle.xmp_base.specs.Device.{SendCall}
use Rattle.xmp_cli.proofs.Sends.{sent_more}
use Rattle.xmp_cli.proofs.sending.send.Goals as goal

pub loop-done-preserved : goal.loop-done-preserved
loop-done-preserved g c =
    let inv = c.loop-done.invariant in
    let call = c.in_ok-done.ensures.call in
    record {
      within = omega (arith, call.most, inv.within, ap length (take_rest c.args.text.now c.loop-done.done), length-drop c.loop-done.done c.args.text.now);
      sent = sent_more _ _ _ _ _ _ inv.sent (subst (λ (l : List ℕ). SendCall (g.O.Sink.state c.loop-done.out) (g.O.Sink.state c.write.new.self) l (Ok c.in_ok-done.field-0)) (take_rest c.args.text.now c.loop-done.done) call);
    }
