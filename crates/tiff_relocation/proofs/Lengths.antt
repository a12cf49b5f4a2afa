-- How long the parts of a relocated file are, and that it ends with its packet.
use Rattle.std.proofs.Common.{◌≡◌, ◌∙◌, ℕ, ◌+◌, ◌-◌, List, ◌++◌, length, drop, refl, sym, ap, arith, append_assoc, Some, None}
use Rattle.std.specs.declared.option.Option.{Option}
use Rattle.std.proofs.lemmas.List.{length-append, length-drop, length-take-le, length-replicate, drop_at}
use Rattle.xmp_base.specs.Device.{put_at}
use Rattle.xmp_base.specs.declared.file_span.FileSpan.{FileSpan}
use Rattle.xmp_base.proofs.Ranges.{put_length}
use Rattle.tiff_dirs.specs.declared.layout.Layout.{Layout}
use Rattle.tiff_dirs.specs.declared.entry.Entry.{Entry}
use Rattle.tiff_dirs.specs.Layouts.{Widths}
use Rattle.tiff_dirs.specs.Directories.{span}
use Rattle.tiff_dirs.specs.Frames.{bytes_in}
use Rattle.tiff_dirs.specs.Tiff.{Dir, Tiff, first_entry}
use Rattle.tiff_relocation.specs.Relocation.{changed, changed_by, copy_by, copy_bytes, cut_place, even, first_dir, new_copy, new_numbers, number_bytes, numbers_by, packet_entry, packet_place, packet_place_by, pad, pad_len, relocated}
use Rattle.tiff_relocation.specs.Moves.{Lies, LiesIn, relocation_of}
use Rattle.tiff_relocation.proofs.Copied.{bytes_length}

pub numbers_len : (l : Layout) (size len : ℕ) (o : Option Entry) → length (numbers_by l size len o) ≡ (changed_by l o).end - (changed_by l o).start
numbers_len l size len None = let n = bytes_length l.big l.word (even size) in omega (arith, n)
numbers_len l size len (Some e) =
    let first = bytes_length l.big l.word len in
    let second = bytes_length l.big l.word (even size) in
    omega (arith, length-append (number_bytes l.big l.word len) (number_bytes l.big l.word (even size)), first, second)

-- the bytes of a range that lies in the file
pub range_len : (file : List ℕ) (r : FileSpan) → LiesIn (length file) r → length (bytes_in file r) ≡ r.end - r.start
range_len file r lies = length-take-le (r.end - r.start) (drop r.start file) (omega (arith, length-drop r.start file, lies.0, lies.1))

entry_len : (l : Layout) (len place : ℕ) → Widths l → length (packet_entry l len place) ≡ l.entry
entry_len l len place w =
    let tag = number_bytes l.big 2 700 in
    let code = number_bytes l.big 2 1 in
    let count = number_bytes l.big l.word len in
    let offset = number_bytes l.big l.word place in
    omega (
      arith,
      w.entry,
      length-append tag (code ++ (count ++ offset)),
      length-append code (count ++ offset),
      length-append count offset,
      bytes_length l.big 2 700,
      bytes_length l.big 2 1,
      bytes_length l.big l.word len,
      bytes_length l.big l.word place,
    )

pub copy_length : (l : Layout) (file : List ℕ) (d : Dir) (len : ℕ) (o : Option Entry) → Widths l
    → LiesIn (length file) (copy_by l (length file) d 0 o).before → LiesIn (length file) (copy_by l (length file) d 0 o).after
    → even (length file) + length (copy_bytes file (copy_by l (length file) d len o)) ≡ packet_place_by l (length file) d o
copy_length l file d len (Some e) w before after = omega arith
copy_length l file d len None w before after =
    let head = number_bytes l.big l.count (length d.entries + 1) in
    let first = bytes_in file (span (d.at + l.count) (cut_place l d)) in
    let entry = packet_entry l len (packet_place_by l (length file) d None) in
    let last = bytes_in file (span (cut_place l d) d.end) in
    let first_is = range_len file (span (d.at + l.count) (cut_place l d)) before in
    let last_is = range_len file (span (cut_place l d) d.end) after in
    omega (
      arith,
      before.0,
      after.0,
      w.entry,
      length-append head (first ++ (entry ++ last)),
      length-append first (entry ++ last),
      length-append entry last,
      bytes_length l.big l.count (length d.entries + 1),
      first_is,
      entry_len l len (packet_place_by l (length file) d None) w,
      last_is,
    )

module _ (file : List ℕ) (tiff : Tiff) (packet : List ℕ) (lies : Lies (relocation_of (length file) tiff)) where
  abbrev numbers : List ℕ
  numbers = new_numbers (length file) (length packet) tiff

  abbrev copied : List ℕ
  copied = copy_bytes file (new_copy (length file) (length packet) tiff)

  pub changed_len : length numbers ≡ (changed tiff).end - (changed tiff).start
  changed_len = numbers_len tiff.layout (length file) (length packet) (first_entry 700 tiff.dirs)

  pub exchanged_len : length (put_at file (changed tiff).start numbers) ≡ length file
  exchanged_len = put_length (changed tiff).start (length numbers) file numbers (omega (arith, changed_len, lies.changed.0, lies.changed.1)) refl

  -- all but the packet
  abbrev front : List ℕ
  front = put_at file (changed tiff).start numbers ++ (pad (length file) ++ copied)

  front_len : length front ≡ packet_place (length file) tiff
  front_len =
      let copy = copy_length tiff.layout file (first_dir tiff.dirs) (length packet) (first_entry 700 tiff.dirs) lies.widths lies.before lies.after in
      omega (
        arith,
        exchanged_len,
        copy,
        length-append (put_at file (changed tiff).start numbers) (pad (length file) ++ copied),
        length-append (pad (length file)) copied,
        length-replicate {A = ℕ} (pad_len (length file)) 0,
      )

  whole : relocated file tiff packet ≡ front ++ packet
  whole =
      ap (λ (t : List ℕ). put_at file (changed tiff).start numbers ++ t) (sym (append_assoc (pad (length file)) copied packet))
      ∙ sym (append_assoc (put_at file (changed tiff).start numbers) (pad (length file) ++ copied) packet)

  pub ends_with_packet : drop (packet_place (length file) tiff) (relocated file tiff packet) ≡ packet
  ends_with_packet = ap (drop (packet_place (length file) tiff)) whole ∙ drop_at front packet (packet_place (length file) tiff) front_len

  pub relocated_len : length (relocated file tiff packet) ≡ packet_place (length file) tiff + length packet
  relocated_len = ap length whole ∙ omega (arith, length-append front packet, front_len)
