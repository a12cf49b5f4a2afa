use Rattle.std.proofs.Common.{◌+◌, ◌≤◌, ◌++◌, length, refl, ◌∙◌, length-append, arith}
use Rattle.xmp_write.specs.Text.{written_text}
use Rattle.xmp_write.specs.WrittenPackets.{header, trailer}
use Rattle.xmp_write.proofs.PlacedPieces.{◌▸◌}
use Rattle.xmp_write.proofs.PutPackets.{put_packet, packet_put}
use Rattle.xmp_write.proofs.writing.packet_into.Goals as goal

pub returns : goal.returns
returns c =
    let ps = c.args.prefixes.now in
    let t = c.args.tree.now in
    let form = c.args.form.now in
    let text = written_text ps t form in
    let room : length (header ++ text) + length trailer ≤ length c.args.to.now = omega (arith, length-append header text, c.requires.room) in
    put_packet (header ++ text) trailer c.args.to.now c.put_text-at.new.to _ c.pad_into.new.to c.put.new.to c.put_text-at.result c.put.result room (c.put-at.ensures ▸ c.put_text-at.ensures) refl
    c.pad_into.ensures c.put.ensures
    ∙ packet_put ps t form c.args.to.now c.requires.room
