-- A TIFF or BigTIFF file that is relocated is read as the new tree, and keeps its pictures and all bytes but the exchanged numbers.
use Rattle.std.proofs.Common.{◌≡◌, ◌∙◌, ℕ, ◌+◌, ◌-◌, ◌<◌, ◌≤◌, true, false, List, length, take, drop, ap, subst, arith, Some, None}
use Rattle.std.specs.Prelude.{◌&&◌, nat_le}
use Rattle.std.specs.declared.option.Option.{Option}
use Rattle.std.specs.Option.{is_none, option_map}
use Rattle.std.proofs.lemmas.Bool.{leb-false}
use Rattle.std.proofs.lemmas.List.{take_all}
use Rattle.xmp_base.specs.declared.file_span.FileSpan.{FileSpan}
use Rattle.xmp_values.specs.declared.hints.Hint.{Hint}
use Rattle.xmp_tree.specs.Parts.{Parts}
use Rattle.round_trip.specs.Law.{PacketMeans}
use Rattle.tiff_dirs.specs.declared.layout.Layout.{Layout}
use Rattle.tiff_dirs.specs.declared.entry.Entry.{Entry}
use Rattle.tiff_dirs.specs.Layouts.{Widths, layout_of}
use Rattle.tiff_dirs.specs.Tiff.{Dir, Tiff, first_entry}
use Rattle.tiff_dirs.specs.Model.{IsTiff}
use Rattle.tiff_dirs.proofs.Framed.{layout_widths}
use Rattle.tiff_dirs.proofs.Unique.{tiff_same}
use Rattle.tiff_relocation.specs.Relocation.{first_dir, lacks_room, packet_place, relocated, tells}
use Rattle.tiff_relocation.specs.Apart.{HasRoom, IsApart, IsMoved, MayMove}
use Rattle.tiff_relocation.specs.Moves.{Lies, relocation_of}
use Rattle.tiff_relocation.proofs.Lengths.{ends_with_packet, relocated_len}
use Rattle.tiff_relocation.proofs.Words.{held_by_words}
use Rattle.tiff_relocation.proofs.Lying.{relocation_lies}
use Rattle.tiff_relocation.proofs.Joined.{new_file_is_walked}
use Rattle.tiff_relocation.proofs.OldBytes.{old_bytes_stay}
use Rattle.xmp_files.specs.Faults.{file_limit, packet_limit}
use Rattle.xmp_files.specs.Keeping.{Piece}
use Rattle.xmp_files.specs.Photographs.{piece_at}
use Rattle.xmp_files.specs.Images.{tiff_packet}
use Rattle.xmp_files.specs.Opening.{HoldsTree}
use Rattle.xmp_files.specs.Planning.{KeepsRanges}
use Rattle.xmp_files.proofs.HeldImages.{image_kind_same, image_read}
use Rattle.xmp_files.proofs.WalkedImages.{IsImageKind}

room_by : (o : Option Entry) (d : Dir) → (is_none o && nat_le 65535 (length d.entries)) ≡ false → HasRoom o d
room_by None d h = leb-false 65535 (length d.entries) h
room_by (Some e) d h = tt

module _ (old : List ℕ) (tiff : Tiff) (walked : IsTiff old tiff) (small : length old ≤ file_limit) (packet : List ℕ) where
  abbrev new : List ℕ
  new = relocated old tiff packet

  abbrev place : ℕ
  place = packet_place (length old) tiff

  pub lies : Lies (relocation_of (length old) tiff)
  lies = relocation_lies old tiff walked (omega (arith, small))

  layout_is : tiff.layout ≡ layout_of old
  layout_is = ap (λ (t : Tiff). t.layout) walked.found.is

  widths : Widths tiff.layout
  widths = lies.widths

  size_is : length new ≡ place + length packet
  size_is = relocated_len old tiff packet lies

  module _ (long : 8 < length packet) (short : length packet ≤ packet_limit) (within : length new ≤ file_limit) (roomy : lacks_room tiff ≡ false) (fits : tells tiff.layout (place + length packet) ≡ true) where
    may_move : MayMove old tiff packet
    may_move = record {
      room = room_by (first_entry 700 tiff.dirs) (first_dir tiff.dirs) roomy;
      long = let most = widths.most_word in omega (arith, most, long);
      told = held_by_words tiff.layout (place + length packet) widths (omega (arith, size_is, within)) fits;
    }

    abbrev piece : Piece
    piece = record { at = place; bytes = packet }

    packet_there : (m : IsMoved old tiff packet) → tiff_packet new m.now ≡ Some piece
    packet_there m =
        let span_is : (place + length packet) - place ≡ length packet = omega arith in
        let bytes : take ((place + length packet) - place) (drop place new) ≡ packet =
        ap (λ (n : ℕ). take n (drop place new)) span_is ∙ ap (take (length packet)) (ends_with_packet old tiff packet lies) ∙ take_all (length packet) packet (omega arith) in
        ap (option_map (λ (y : Entry). piece_at new y.value)) m.first ∙ ap (λ (r : FileSpan). Some (piece_at new r)) m.value
        ∙ ap (λ (l : List ℕ). let o : Option Piece = Some (record { at = place; bytes = l }) in o) bytes

    least_old : 8 ≤ length old
    least_old =
        let header = walked.found.walks.header in
        let w = layout_widths old in
        let double = w.header in
        let least = w.least_word in
        omega (arith, header, double, least)

    pub new_holds : IsImageKind old → IsApart tiff → (declared : List Hint) (t : Parts) → PacketMeans packet declared t None → HoldsTree (Some new) t
    new_holds kind apart declared t means =
        let m = new_file_is_walked old tiff packet walked apart may_move in
        let front = (old_bytes_stay old tiff packet walked).2 in
        let kind_now : IsImageKind new =
        image_kind_same old new (subst (λ (l : Layout). 4 ≤ l.word) layout_is widths.least_word) (subst (λ (l : Layout). take l.word new ≡ take l.word old) layout_is front) least_old
        (omega (arith, least_old, size_is, long)) kind in
        image_read new m.now m.walked kind_now piece (packet_there m) declared t within short means

    pub new_keeps : KeepsRanges old tiff new
    new_keeps =
        let stay = old_bytes_stay old tiff packet walked in
        record {
          outside = stay.0;
          pictures = stay.1;
          same = λ apart now is. (
              let m = new_file_is_walked old tiff packet walked apart may_move in ap (λ (t : Tiff). t.pictures) (tiff_same new now m.now is m.walked) ∙ m.pictures
              );
        }
