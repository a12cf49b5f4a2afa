use Rattle.std.proofs.Common.{◌≡◌, ◌∙◌, ℕ, ◌+◌, false, true, List, length, sym, ap, subst}
use Rattle.std.specs.Prelude.{All}
use Rattle.xmp_write.specs.WrittenPackets.{packet}
use Rattle.tiff_relocation.specs.declared.relocation.Relocation.{Relocation}
use Rattle.tiff_relocation.specs.Relocation.{packet_place, tells, lacks_room}
use Rattle.tiff_relocation.specs.Moves.{has_no_room}
use Rattle.xmp_files.specs.declared.parts.FilePart.{FilePart}
use Rattle.xmp_files.specs.NewFiles.{PartLies, last_parts, moved_parts, parts_at}
use Rattle.xmp_files.specs.Plans.{appended_parts}
use Rattle.xmp_files.proofs.PacketLengths.{length-packet}
use Rattle.xmp_files.proofs.AppendedImages.{moved_as}
use Rattle.xmp_files.proofs.LastParts.{last_long, last_put, parts_are_moved, parts_lie}
use Rattle.xmp_files.proofs.appending.append_packet.Goals as goal

pub returns-then-not-tells-clause-step : goal.returns-then-not-tells-clause-step
returns-then-not-tells-clause-step c =
    let all : List ℕ = packet c.args.prefixes.now c.args.tree.now c.args.form.now c.args.len in
    let len_is : c.in-Some.relocation.place + c.args.len ≡ packet_place c.args.size c.args.dirs.now + length all =
    (λ i. (ap (λ (r : Relocation). r.place) c.in-Some.ensures.is) i + sym (length-packet c.args.prefixes.now c.args.tree.now c.args.form.now c.args.len c.requires.room) i) in
    let room : lacks_room c.args.dirs.now ≡ false = ap has_no_room (sym c.in-Some.ensures.is) ∙ sym c.lacks_room.ensures ∙ c.if-lacks_room.false in
    let long : tells c.args.dirs.now.layout (packet_place c.args.size c.args.dirs.now + length all) ≡ false =
    (λ i. tells (ap (λ (r : Relocation). r.layout) (sym c.in-Some.ensures.is) i) (sym len_is i)) ∙ sym c.tells.ensures.is ∙ c.if-not-tells.true in
    last_long c.args.size c.args.dirs.now all c.over_offsets.result (c.in-Some.relocation.place + c.args.len) room long len_is c.over_offsets.ensures

pub within_out-requires : goal.within_out-requires
within_out-requires c =
    let all : List ℕ = packet c.args.prefixes.now c.args.tree.now c.args.form.now c.args.len in
    let lie : All (PartLies c.in-Some.relocation.size (length c.in_ok-bytes.bytes.items)) (last_parts c.in-Some.relocation c.in_ok-bytes.ends) =
    parts_lie c.in-Some.relocation all c.in_ok-bytes.bytes.items c.in_ok-bytes.ends c.in_ok-bytes.ensures c.in-Some.ensures.lies in
    subst (λ (n : ℕ). All (PartLies n (length c.from_vec.result)) c.in_ok-parts.parts.items) (ap (λ (r : Relocation). r.size) c.in-Some.ensures.is)
    (subst (λ (b : List ℕ). All (PartLies c.in-Some.relocation.size (length b)) c.in_ok-parts.parts.items) (sym c.from_vec.ensures)
    (subst (λ (ps : List FilePart). All (PartLies c.in-Some.relocation.size (length c.in_ok-bytes.bytes.items)) ps) (sym c.in_ok-parts.ensures) lie))

pub returns-clause-step : goal.returns-clause-step
returns-clause-step c =
    let all : List ℕ = packet c.args.prefixes.now c.args.tree.now c.args.form.now c.args.len in
    let len_is : c.in-Some.relocation.place + c.args.len ≡ packet_place c.args.size c.args.dirs.now + length all =
    (λ i. (ap (λ (r : Relocation). r.place) c.in-Some.ensures.is) i + sym (length-packet c.args.prefixes.now c.args.tree.now c.args.form.now c.args.len c.requires.room) i) in
    let room : lacks_room c.args.dirs.now ≡ false = ap has_no_room (sym c.in-Some.ensures.is) ∙ sym c.lacks_room.ensures ∙ c.if-lacks_room.false in
    let fits : tells c.args.dirs.now.layout (packet_place c.args.size c.args.dirs.now + length all) ≡ true =
    (λ i. tells (ap (λ (r : Relocation). r.layout) (sym c.in-Some.ensures.is) i) (sym len_is i)) ∙ sym c.tells.ensures.is ∙ c.if-not-tells.false in
    let are : parts_at c.from_vec.result c.in_ok-parts.parts.items ≡ appended_parts c.args.size c.args.dirs.now all =
    (λ i. parts_at (c.from_vec.ensures i) (c.in_ok-parts.ensures i))
    ∙ parts_are_moved c.in-Some.relocation all c.in_ok-bytes.bytes.items c.in_ok-bytes.ends c.in_ok-bytes.ensures
    ∙ ap (λ (r : Relocation). moved_parts r all) c.in-Some.ensures.is
    ∙ moved_as c.args.size c.args.dirs.now all in
    last_put c.args.size c.args.dirs.now all (parts_at c.from_vec.result c.in_ok-parts.parts.items) c.within_out.result room fits are c.within_out.ensures.step
