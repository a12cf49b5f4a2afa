use Rattle.std.proofs.Common.{arith}
use Rattle.xmp_files.proofs.Emits.{standing_none, front_from, front_to, front_len, loop_lies, loop_room, loop_fits, loop_more, loop_stopped, loop_all}
use Rattle.xmp_files.proofs.emitting.put_parts.Goals as goal

pub loop-part-init : goal.loop-part-init
loop-part-init g c = standing_none _ _ _ _ c.requires.target

pub put_part-requires-clause-source : goal.put_part-requires-clause-source
put_part-requires-clause-source g c = front_from _ _ _ _ _ _ c.requires.apart c.loop-part.invariant.front c.requires.source

pub put_part-requires-clause-target : goal.put_part-requires-clause-target
put_part-requires-clause-target g c = front_to _ _ _ _ _ _ c.requires.apart c.loop-part.invariant.front

pub put_part-requires-clause-at_end : goal.put_part-requires-clause-at_end
put_part-requires-clause-at_end g c = let len = front_len _ _ _ _ _ _ c.requires.apart c.loop-part.invariant.front in omega (arith, len, c.requires.at_end)

pub put_part-requires-clause-inside : goal.put_part-requires-clause-inside
put_part-requires-clause-inside g c = loop_lies _ _ _ _ _ _ _ _ _ c.requires.apart c.loop-part-test.true c.loop-part.invariant c.requires.inside

pub put_part-requires-clause-room : goal.put_part-requires-clause-room
put_part-requires-clause-room g c = loop_room _ _ _ _ _ _ _ _ _ c.requires.apart c.loop-part-test.true c.loop-part.invariant c.requires.room

pub returns-in_err-put_part : goal.returns-in_err-put_part
returns-in_err-put_part g c = record {
  call = loop_stopped _ _ _ _ _ _ _ _ _ c.requires.apart c.loop-part-test.true c.loop-part.invariant _ c.in_err-put_part.field-0.0 _ c.in_err-put_part.ensures.call c.from_residual.ensures.0;
}

pub overflow_add-end : goal.overflow_add-end
overflow_add-end g c = let less = loop_fits _ _ _ _ _ _ _ _ _ c.requires.apart c.loop-part-test.true c.loop-part.invariant c.requires.inside c.requires.room _ c.len-end.ensures in omega (arith, less)

pub loop-part-preserved : goal.loop-part-preserved
loop-part-preserved g c = loop_more _ _ _ _ _ _ _ _ _ c.requires.apart c.loop-part-test.true c.loop-part.invariant c.requires.inside _ c.in_ok-put_part.ensures.call _ c.len-end.ensures

pub returns : goal.returns
returns g c = record { call = loop_all _ _ _ _ _ _ _ _ c.loop-part-test.false c.loop-part.invariant }
