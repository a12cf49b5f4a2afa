use Rattle.std.proofs.lemmas.List.{take_rest}
use Rattle.packet_exchange.proofs.Closing.{stayed, spaced_failed, rest_failed, exchanged}
use Rattle.packet_exchange.proofs.exchange_packet.Goals as goal

pub returns-then-from-new : goal.returns-then-from-new
returns-then-from-new g c = record {
  call = stayed _ _ _ _ _ _ c.first_difference-from.ensures.is_first c.requires.as_long c.if-from-new.true;
}

pub returns-in_err-put_inside : goal.returns-in_err-put_inside
returns-in_err-put_inside g c = record {
  call = spaced_failed _ _ _ c.first_difference-from.ensures.is_first c.requires.as_long c.requires.old_opens c.requires.new_opens c.if-from-new.false _ _ _ _
      c.in_err-put_inside.field-0.0 _ c.in_err-put_inside.ensures.call c.from_residual.ensures.0;
}

pub returns-in_err-put_inside-2 : goal.returns-in_err-put_inside-2
returns-in_err-put_inside-2 g c = record {
  call = rest_failed _ _ _ c.first_difference-from.ensures.is_first c.requires.as_long c.requires.old_opens c.requires.new_opens c.if-from-new.false _ _ _ _ c.in_ok-put_inside.ensures.call _
      c.in_err-put_inside-2.field-0.0 _ (rw (take_rest c.args.new.now c.first_difference-from.result) at c.in_err-put_inside-2.ensures.call) c.from_residual-in_err-put_inside-2.ensures.0;
}

pub returns : goal.returns
returns g c = record {
  call = exchanged _ _ _ c.first_difference-from.ensures.is_first c.requires.as_long c.requires.old_opens c.requires.new_opens c.if-from-new.false _ _ _ _ c.in_ok-put_inside.ensures.call _
      (rw (take_rest c.args.new.now c.first_difference-from.result) at c.in_ok-put_inside-2.ensures.call) _ _ c.put_inside-3.ensures.call;
}
