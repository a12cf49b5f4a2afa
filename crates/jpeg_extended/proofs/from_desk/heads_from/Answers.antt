use Rattle.jpeg_extended.proofs.DeskPortions.{heads_none, heads_step, heads_failed}
use Rattle.jpeg_extended.proofs.from_desk.heads_from.Goals as goal

pub loop-payload-init : goal.loop-payload-init
loop-payload-init g c = heads_none _ _ _ _ _ c.new-heads.ensures.items

pub returns-in-Err-clause-calls : goal.returns-in-Err-clause-calls
returns-in-Err-clause-calls g c = heads_failed _ _ _ _ _ _ _ _ _ c.loop-payload-test.true c.loop-payload.invariant c.in-Err.ensures.calls

pub returns-in-Err-put_head-clause-calls : goal.returns-in-Err-put_head-clause-calls
returns-in-Err-put_head-clause-calls g c = heads_failed _ _ _ _ _ _ _ _ _ c.loop-payload-test.true c.loop-payload.invariant c.in-Ok.ensures.calls

pub loop-payload-preserved : goal.loop-payload-preserved
loop-payload-preserved g c = heads_step _ _ _ _ _ c.args.len _ _ _ _ _ c.in-Ok.head c.loop-payload-test.true c.requires.inside c.requires.told c.loop-payload.invariant c.in-Ok.ensures.calls c.in-Ok.ensures.lies
    c.in-Ok.ensures.head c.in-Ok-put_head.ensures
