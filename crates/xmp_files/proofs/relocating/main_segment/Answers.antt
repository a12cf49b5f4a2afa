use Rattle.xmp_files.proofs.PacketLengths.{length-packet}
use Rattle.xmp_files.proofs.Relocations.{main_text}
use Rattle.xmp_files.proofs.relocating.main_segment.Goals as goal

pub returns : goal.returns
returns c =
    main_text c.in_ok-segment.segment.items c.extend_from_slice.new.self.items c.extend_from_slice-2.new.self.items c.extend_from_slice-3.new.self.items c.push_packet.new.segments.items c.to_be_bytes.result _ c.args.len
    c.in_ok-segment.ensures.items c.in_ok-extend_from_slice.ensures.items c.in_ok-extend_from_slice-2.ensures.items c.in_ok-extend_from_slice-3.ensures.items c.in_ok-push_packet.ensures c.to_be_bytes.ensures
    (length-packet c.args.prefixes.now c.args.tree.now c.args.form.now c.args.len c.requires.room)
