use Rattle.std.proofs.Common.{◌∙◌, ◌-◌, subst, sym, Err, arith}
use Rattle.xmp_base.specs.Windows.{WindowCall}
use Rattle.xmp_base.specs.declared.windows.WindowStop.{WindowStop}
use Rattle.xmp_base.proofs.Exchanges.{len_after}
use Rattle.xmp_files.proofs.WalkedImages.{begins_tiff, walk_stopped, walk_empty, walk_over, value_out, value_lies, read_failed, read_wants, packet_kept}
use Rattle.xmp_files.proofs.images.load_image.Goals as goal

pub walk_known-requires-clause-begins : goal.walk_known-requires-clause-begins
walk_known-requires-clause-begins g c = λ files told. begins_tiff _ (c.requires.kind files told)

pub returns-in-Err : goal.returns-in-Err
returns-in-Err g c = record {
  call = walk_stopped c.args.need (g.D.Desk.state c.args.desk.now) (g.D.Desk.state c.walk_known.new.desk) c.args.name.now c.args.size (record { len = c.requires.len; whole = c.requires.told }) c.requires.kind
      c.in-Err.stop c.walk_stop.result c.in-Err.ensures.call c.walk_stop.ensures;
}

pub returns-in_default : goal.returns-in_default
returns-in_default g c = record {
  call = walk_empty c.args.need (g.D.Desk.state c.args.desk.now) (g.D.Desk.state c.walk_known.new.desk) c.args.name.now c.args.size (record { len = c.requires.len; whole = c.requires.told }) c.requires.kind
      c.in-Ok.dirs c.in-Ok.ensures.call c.image.result c.image.ensures (sym c.first_tag.ensures ∙ c.in_default.is);
}

pub returns-then-len-gt-PACKET_LIMIT : goal.returns-then-len-gt-PACKET_LIMIT
returns-then-len-gt-PACKET_LIMIT g c =
    let lies = value_lies c.args.need (g.D.Desk.state c.args.desk.now) (g.D.Desk.state c.walk_known.new.desk) c.args.name.now c.args.size (record { len = c.requires.len; whole = c.requires.told }) c.requires.kind
    c.in-Ok.dirs c.in-Ok.ensures.call c.in-Some.entry (sym c.first_tag.ensures ∙ c.in-Some.is) (sym c.lies_in.ensures ∙ c.if-not-lies_in.false) in
    record {
      call = walk_over c.args.need (g.D.Desk.state c.args.desk.now) (g.D.Desk.state c.walk_known.new.desk) c.args.name.now c.args.size (record { len = c.requires.len; whole = c.requires.told }) c.requires.kind
          c.in-Ok.dirs c.in-Ok.ensures.call c.in-Some.entry (sym c.first_tag.ensures ∙ c.in-Some.is) lies.0 lies.1 c.over_packet.result c.if-len-gt-PACKET_LIMIT.true c.over_packet.ensures;
    }

pub window-requires-clause-within : goal.window-requires-clause-within
window-requires-clause-within g c =
    let lies = value_lies c.args.need (g.D.Desk.state c.args.desk.now) (g.D.Desk.state c.walk_known.new.desk) c.args.name.now c.args.size (record { len = c.requires.len; whole = c.requires.told }) c.requires.kind
    c.in-Ok.dirs c.in-Ok.ensures.call c.in-Some.entry (sym c.first_tag.ensures ∙ c.in-Some.is) (sym c.lies_in.ensures ∙ c.if-not-lies_in.false) in
    let len = len_after (g.D.Desk.state c.args.desk.now) (g.D.Desk.state c.walk_known.new.desk) c.args.name.now c.in-Ok.ensures.call.lens in
    omega (arith, lies.0, lies.1, len, c.requires.len)

pub returns-in-Ok-window : goal.returns-in-Ok-window
returns-in-Ok-window g c =
    let lies = value_lies c.args.need (g.D.Desk.state c.args.desk.now) (g.D.Desk.state c.walk_known.new.desk) c.args.name.now c.args.size (record { len = c.requires.len; whole = c.requires.told }) c.requires.kind
    c.in-Ok.dirs c.in-Ok.ensures.call c.in-Some.entry (sym c.first_tag.ensures ∙ c.in-Some.is) (sym c.lies_in.ensures ∙ c.if-not-lies_in.false) in
    record {
      call = packet_kept c.args.need (g.D.Desk.state c.args.desk.now) (g.D.Desk.state c.walk_known.new.desk) c.args.name.now c.args.size (record { len = c.requires.len; whole = c.requires.told }) c.requires.kind
          c.in-Ok.dirs c.in-Ok.ensures.call c.in-Some.entry (sym c.first_tag.ensures ∙ c.in-Some.is) lies.0 lies.1 (g.D.Desk.state c.window.new.desk) c.in-Ok-window.bytes c.image-in-Ok-window.result
          c.in-Ok-window.ensures.call c.if-len-gt-PACKET_LIMIT.false c.image-in-Ok-window.ensures;
    }

pub returns-in-Err-Device : goal.returns-in-Err-Device
returns-in-Err-Device g c =
    let lies = value_lies c.args.need (g.D.Desk.state c.args.desk.now) (g.D.Desk.state c.walk_known.new.desk) c.args.name.now c.args.size (record { len = c.requires.len; whole = c.requires.told }) c.requires.kind
    c.in-Ok.dirs c.in-Ok.ensures.call c.in-Some.entry (sym c.first_tag.ensures ∙ c.in-Some.is) (sym c.lies_in.ensures ∙ c.if-not-lies_in.false) in
    record {
      call = read_failed c.args.need (g.D.Desk.state c.args.desk.now) (g.D.Desk.state c.walk_known.new.desk) c.args.name.now c.args.size (record { len = c.requires.len; whole = c.requires.told }) c.requires.kind
          c.in-Ok.dirs c.in-Ok.ensures.call c.in-Some.entry (sym c.first_tag.ensures ∙ c.in-Some.is) lies.0 lies.1 c.if-len-gt-PACKET_LIMIT.false (g.D.Desk.state c.window.new.desk)
          (subst (λ (w : WindowStop). WindowCall (g.D.Desk.state c.walk_known.new.desk) (g.D.Desk.state c.window.new.desk) c.args.name.now c.in-Some.entry.value.start
          (c.in-Some.entry.value.end - c.in-Some.entry.value.start) (Err w)) c.in-Err-Device.field-0-is c.in-Err-Device.ensures.call);
    }

pub returns : goal.returns
returns g c =
    let lies = value_lies c.args.need (g.D.Desk.state c.args.desk.now) (g.D.Desk.state c.walk_known.new.desk) c.args.name.now c.args.size (record { len = c.requires.len; whole = c.requires.told }) c.requires.kind
    c.in-Ok.dirs c.in-Ok.ensures.call c.in-Some.entry (sym c.first_tag.ensures ∙ c.in-Some.is) (sym c.lies_in.ensures ∙ c.if-not-lies_in.false) in
    record {
      call = read_wants c.args.need (g.D.Desk.state c.args.desk.now) (g.D.Desk.state c.walk_known.new.desk) c.args.name.now c.args.size (record { len = c.requires.len; whole = c.requires.told }) c.requires.kind
          c.in-Ok.dirs c.in-Ok.ensures.call c.in-Some.entry (sym c.first_tag.ensures ∙ c.in-Some.is) lies.0 lies.1 c.if-len-gt-PACKET_LIMIT.false (g.D.Desk.state c.window.new.desk)
          (subst (λ (w : WindowStop). WindowCall (g.D.Desk.state c.walk_known.new.desk) (g.D.Desk.state c.window.new.desk) c.args.name.now c.in-Some.entry.value.start
          (c.in-Some.entry.value.end - c.in-Some.entry.value.start) (Err w)) c.in-Err-Memory.field-0-is c.in-Err-Memory.ensures.call);
    }

pub returns-then-not-lies_in : goal.returns-then-not-lies_in
returns-then-not-lies_in g c = record {
  call = value_out c.args.need (g.D.Desk.state c.args.desk.now) (g.D.Desk.state c.walk_known.new.desk) c.args.name.now c.args.size (record { len = c.requires.len; whole = c.requires.told }) c.requires.kind
      c.in-Ok.dirs c.in-Ok.ensures.call c.in-Some.entry (sym c.first_tag.ensures ∙ c.in-Some.is) c.image_fault.result
      (sym c.lies_in.ensures ∙ c.if-not-lies_in.true) c.image_fault.ensures;
}
