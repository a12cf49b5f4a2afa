use Rattle.std.proofs.Common.{ap}
use Rattle.std.specs.Prelude.{length}
use Rattle.xmp_write.specs.WrittenPackets.{packet}
use Rattle.xmp_files.proofs.PacketLengths.{length-packet}
use Rattle.xmp_files.proofs.LastParts.{added}
use Rattle.xmp_files.proofs.appending.new_bytes.Goals as goal

pub returns : goal.returns
returns c =
    added c.args.relocation.now (packet c.args.prefixes.now c.args.tree.now c.args.form.now c.args.len) c.args.len c.new-bytes.result.items c.push_numbers.new.bytes.items c.push_head.new.bytes.items
    c.push_entry.new.bytes.items c.push_packet.new.segments.items _ c.new-bytes.ensures.items c.in_ok-push_numbers.ensures c.in_ok-push_head.ensures c.in_ok-push_entry.ensures c.in_ok-push_packet.ensures
    (length-packet c.args.prefixes.now c.args.tree.now c.args.form.now c.args.len c.requires.room) (ap length c.as_slice.ensures.value) (ap length c.as_slice-2.ensures.value) (ap length c.as_slice-3.ensures.value) (ap length c.as_slice-4.ensures.value)
