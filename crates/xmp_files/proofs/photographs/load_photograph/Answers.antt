use Rattle.std.proofs.Common.{◌∙◌, ◌-◌, subst, sym, None, Err, arith}
use Rattle.xmp_base.specs.Windows.{WindowCall}
use Rattle.xmp_base.specs.declared.windows.WindowStop.{WindowStop}
use Rattle.xmp_base.proofs.Exchanges.{len_after}
use Rattle.xmp_files.specs.Keeping.{photograph}
use Rattle.xmp_files.proofs.LoadedPhotographs.{begins_jpeg, cut_stopped, cut_empty, cut_over, placed, packet_failed, packet_wants, packet_read, packet_lies}
use Rattle.xmp_files.proofs.photographs.load_photograph.Goals as goal

pub cut_known-requires-clause-begins : goal.cut_known-requires-clause-begins
cut_known-requires-clause-begins g c = λ files told. begins_jpeg _ (c.requires.kind files told)

pub returns-in-Err : goal.returns-in-Err
returns-in-Err g c = record {
  call = cut_stopped c.args.need (g.D.Desk.state c.args.desk.now) (g.D.Desk.state c.cut_known.new.desk) c.args.name.now c.args.size (record { len = c.requires.len; whole = c.requires.told }) c.requires.kind
      c.in-Err.stop c.cut_stop.result c.in-Err.ensures.call c.cut_stop.ensures;
}

pub returns-in_default : goal.returns-in_default
returns-in_default g c = record {
  call = cut_empty c.args.need (g.D.Desk.state c.args.desk.now) (g.D.Desk.state c.cut_known.new.desk) c.args.name.now c.args.size (record { len = c.requires.len; whole = c.requires.told }) c.requires.kind
      c.in-Ok.regions c.in-Ok.ensures.call c.photograph.result
      (c.photograph.ensures ∙ (λ i. photograph c.args.need c.args.size c.in-Ok.regions None (c.no_text-text.ensures.portions i) (c.no_text-text.ensures.joined i)))
      (sym c.main.ensures ∙ c.in_default.is);
}

pub returns-then-len-gt-PACKET_LIMIT : goal.returns-then-len-gt-PACKET_LIMIT
returns-then-len-gt-PACKET_LIMIT g c = record {
  call = cut_over c.args.need (g.D.Desk.state c.args.desk.now) (g.D.Desk.state c.cut_known.new.desk) c.args.name.now c.args.size (record { len = c.requires.len; whole = c.requires.told }) c.requires.kind
      c.in-Ok.regions c.in-Ok.ensures.call c.in-Some.payload c.packet_range-range.result (sym c.main.ensures ∙ c.in-Some.is) c.packet_range-range.ensures
      c.over_packet.result c.if-len-gt-PACKET_LIMIT.true c.over_packet.ensures;
}

pub window-requires-clause-within : goal.window-requires-clause-within
window-requires-clause-within g c =
    let p = placed c.args.need (g.D.Desk.state c.args.desk.now) (g.D.Desk.state c.cut_known.new.desk) c.args.name.now c.args.size (record { len = c.requires.len; whole = c.requires.told }) c.requires.kind
    c.in-Ok.regions c.in-Ok.ensures.call c.in-Some.payload c.packet_range-range.result (sym c.main.ensures ∙ c.in-Some.is) c.packet_range-range.ensures in
    let len = len_after (g.D.Desk.state c.args.desk.now) (g.D.Desk.state c.cut_known.new.desk) c.args.name.now c.in-Ok.ensures.call.lens in
    omega (arith, p.order, p.within, len, c.requires.len)

pub returns-in-Ok-window : goal.returns-in-Ok-window
returns-in-Ok-window g c = record {
  call = packet_read c.args.need (g.D.Desk.state c.args.desk.now) (g.D.Desk.state c.cut_known.new.desk) c.args.name.now c.args.size (record { len = c.requires.len; whole = c.requires.told }) c.requires.kind
      c.in-Ok.regions c.in-Ok.ensures.call c.in-Some.payload c.packet_range-range.result (sym c.main.ensures ∙ c.in-Some.is) c.packet_range-range.ensures
      (g.D.Desk.state c.window.new.desk) (g.D.Desk.state c.load_extended.new.desk) c.in-Ok-window.bytes c.in-Ok-window.ensures.call c.if-len-gt-PACKET_LIMIT.false c.load_extended.result c.load_extended.ensures.call;
}

pub returns-in-Err-Device : goal.returns-in-Err-Device
returns-in-Err-Device g c = record {
  call = packet_failed c.args.need (g.D.Desk.state c.args.desk.now) (g.D.Desk.state c.cut_known.new.desk) c.args.name.now c.args.size (record { len = c.requires.len; whole = c.requires.told }) c.requires.kind
      c.in-Ok.regions c.in-Ok.ensures.call c.in-Some.payload c.packet_range-range.result (sym c.main.ensures ∙ c.in-Some.is) c.packet_range-range.ensures
      (g.D.Desk.state c.window.new.desk)
      (subst (λ (w : WindowStop). WindowCall (g.D.Desk.state c.cut_known.new.desk) (g.D.Desk.state c.window.new.desk) c.args.name.now c.packet_range-range.result.start
      (c.packet_range-range.result.end - c.packet_range-range.result.start) (Err w)) c.in-Err-Device.field-0-is c.in-Err-Device.ensures.call);
}

pub returns : goal.returns
returns g c = record {
  call = packet_wants c.args.need (g.D.Desk.state c.args.desk.now) (g.D.Desk.state c.cut_known.new.desk) c.args.name.now c.args.size (record { len = c.requires.len; whole = c.requires.told }) c.requires.kind
      c.in-Ok.regions c.in-Ok.ensures.call c.in-Some.payload c.packet_range-range.result (sym c.main.ensures ∙ c.in-Some.is) c.packet_range-range.ensures
      (g.D.Desk.state c.window.new.desk)
      (subst (λ (w : WindowStop). WindowCall (g.D.Desk.state c.cut_known.new.desk) (g.D.Desk.state c.window.new.desk) c.args.name.now c.packet_range-range.result.start
      (c.packet_range-range.result.end - c.packet_range-range.result.start) (Err w)) c.in-Err-Memory.field-0-is c.in-Err-Memory.ensures.call);
}

pub load_extended-requires-clause-jpeg : goal.load_extended-requires-clause-jpeg
load_extended-requires-clause-jpeg g c = λ files told.
    c.in-Ok.ensures.call.told files (sym c.in-Ok.ensures.call.calls.same.files ∙ sym c.in-Ok-window.ensures.call.calls.same.files ∙ told)

pub load_extended-requires-clause-lies : goal.load_extended-requires-clause-lies
load_extended-requires-clause-lies g c =
    packet_lies c.args.need (g.D.Desk.state c.args.desk.now) (g.D.Desk.state c.cut_known.new.desk) c.args.name.now c.args.size (record { len = c.requires.len; whole = c.requires.told }) c.requires.kind
    c.in-Ok.regions c.in-Ok.ensures.call c.in-Some.payload c.packet_range-range.result (sym c.main.ensures ∙ c.in-Some.is) c.packet_range-range.ensures
    (g.D.Desk.state c.window.new.desk) (g.D.Desk.state c.window.new.desk) c.in-Ok-window.bytes c.in-Ok-window.ensures.call c.if-len-gt-PACKET_LIMIT.false
