use Rattle.jpeg_extended.proofs.NamedPortions.{named_none, named_step, named_failed, named_wants, named_done}
use Rattle.jpeg_extended.proofs.from_desk.named_from.Goals as goal

pub loop-payload-init : goal.loop-payload-init
loop-payload-init g c = named_none _ _ _ _ _ _ c.new-named.ensures.items

pub loop-payload-preserved : goal.loop-payload-preserved
loop-payload-preserved g c = named_step _ _ _ _ _ _ _ _ _ _ c.loop-payload-test.true c.loop-payload.invariant c.in-Ok.ensures.calls _ c.in-Ok.head c.requires.inside c.requires.told
    c.in-Ok.ensures.head c.in-Ok-put_named.ensures

pub returns : goal.returns
returns g c = record { call = named_done _ _ _ _ _ _ _ _ c.loop-payload-test.false c.loop-payload.invariant }

pub returns-in-Err : goal.returns-in-Err
returns-in-Err g c = record { call = named_failed _ _ _ _ _ _ _ _ _ _ c.loop-payload-test.true c.loop-payload.invariant c.in-Err.ensures.calls c.in-Err.ensures.failed }

pub returns-in-Err-put_named : goal.returns-in-Err-put_named
returns-in-Err-put_named g c = record { call = named_wants _ _ _ _ _ _ _ _ _ _ c.loop-payload-test.true c.loop-payload.invariant c.in-Ok.ensures.calls }
