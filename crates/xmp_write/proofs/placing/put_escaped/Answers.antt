use Rattle.std.proofs.Common.{◌+◌, arith}
use Rattle.std.proofs.Common.{get_or}
use Rattle.xmp_write.proofs.PlacedPieces.{puts_none}
use Rattle.xmp_write.proofs.EscapedRuns.{stopped_at, run_put, byte_put, same_reference}
use Rattle.xmp_write.proofs.placing.put_escaped.Goals as goal

pub loop-from-init : goal.loop-from-init
loop-from-init c = record { within = omega arith; put = puts_none c.args.to.now c.args.at (omega arith) (omega arith) }

pub reference-requires : goal.reference-requires
reference-requires c =
    let at = c.loop-from.from + c.plain_run.result in
    let stops = stopped_at c.args.place c.args.text.now c.loop-from.from c.plain_run.result c.loop-from.invariant.within c.plain_run.ensures.run c.if-end-text.true in
    (same_reference c.args.place (get_or c.args.text.now at 0) stops).0

pub loop-from-preserved-then-end-text : goal.loop-from-preserved-then-end-text
loop-from-preserved-then-end-text c =
    let text = c.args.text.now in
    let from = c.loop-from.from in
    let run = c.plain_run.result in
    let kept = c.loop-from.invariant in
    let stops = stopped_at c.args.place text from run kept.within c.plain_run.ensures.run c.if-end-text.true in
    let put = run_put c.args.place text from run kept.within c.plain_run.ensures.run kept.put c.put-after.ensures in record {
      within = omega arith;
      put = byte_put c.args.place text (from + run) c.reference.result.now c.if-end-text.true stops c.reference.ensures put c.put-after-then-end-text.ensures;
    }

pub loop-from-preserved : goal.loop-from-preserved
loop-from-preserved c =
    let kept = c.loop-from.invariant in record {
      within = omega (arith, c.plain_run.ensures.within, kept.within);
      put = run_put c.args.place c.args.text.now c.loop-from.from c.plain_run.result kept.within c.plain_run.ensures.run kept.put c.put-after.ensures;
    }
