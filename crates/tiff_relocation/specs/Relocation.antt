-- The new file of a TIFF or BigTIFF file whose packet is put at its end (TIFF 6.0, section 2; XMP Specification Part 3, TIFF).
use Rattle.std.specs.Prelude.{ℕ, ◌+◌, ◌-◌, ◌*◌, ◌%◌, ◌&&◌, ◌||◌, nat_le, nat_lt, Bool, if◌then◌else◌, List, [], ◌∷◌, ◌++◌, length, replicate, None, Some}
use Rattle.std.specs.declared.option.Option.{Option}
use Rattle.std.specs.Option.{is_none}
use Rattle.std.specs.List.{position_or_len}
use Rattle.byteorder.specs.Endian.{big_bytes, little_bytes}
use Rattle.xmp_base.specs.Device.{put_at}
use Rattle.xmp_base.specs.declared.file_span.FileSpan.{FileSpan}
use Rattle.tiff_dirs.specs.declared.layout.Layout.{Layout}
use Rattle.tiff_dirs.specs.declared.entry.Entry.{Entry}
use Rattle.tiff_dirs.specs.Types.{is_wide}
use Rattle.tiff_dirs.specs.Directories.{span}
use Rattle.tiff_dirs.specs.Frames.{bytes_in}
use Rattle.tiff_dirs.specs.Tiff.{Dir, Tiff, first_entry}

-- a number in so many bytes
unfoldable pub number_bytes : Bool → ℕ → ℕ → List ℕ
number_bytes big width n = if big then big_bytes width n else little_bytes width n

-- the first directory; a file that is walked has one
abbrev pub first_dir : List Dir → Dir
first_dir [] = record { at = 0; end = 0; entries = [] }
first_dir (d ∷ ds) = d

-- What is put at the end of a file begins at an even place, after a zero byte where the length is odd.
abbrev pub pad_len : ℕ → ℕ
pad_len size = size % 2

abbrev pub pad : ℕ → List ℕ
pad size = replicate (pad_len size) 0

abbrev pub even : ℕ → ℕ
even size = size + pad_len size

-- Entries stand in the order of their tags: the new one stands before the first of a greater tag, and last where there is none.
abbrev pub entries_before : List Entry → ℕ
entries_before entries = position_or_len (λ e. nat_lt 700 e.tag) entries

-- where a directory is cut in two by the new entry
abbrev pub cut_place : Layout → Dir → ℕ
cut_place l d = d.at + l.count + l.entry * entries_before d.entries

-- the length of the directory's copy, which has an entry more
abbrev pub copy_len : Layout → Dir → ℕ
copy_len l d = d.end - d.at + l.entry

-- Where there is an entry of the packet, its count and its offset are exchanged; else the header's offset is.
abbrev pub changed_by : Layout → Option Entry → FileSpan
changed_by l None = span l.word (2 * l.word)
changed_by l (Some e) = span (e.place + 4) (e.place + 4 + 2 * l.word)

abbrev pub changed : Tiff → FileSpan
changed tiff = changed_by tiff.layout (first_entry 700 tiff.dirs)

-- where the packet of the new file stands
abbrev pub packet_place_by : Layout → ℕ → Dir → Option Entry → ℕ
packet_place_by l size d None = even size + copy_len l d
packet_place_by l size d (Some e) = even size

abbrev pub packet_place : ℕ → Tiff → ℕ
packet_place size tiff = packet_place_by tiff.layout size (first_dir tiff.dirs) (first_entry 700 tiff.dirs)

-- the numbers that are put there: count and offset of a packet of so many bytes, or the offset of the directory's copy
abbrev pub numbers_by : Layout → ℕ → ℕ → Option Entry → List ℕ
numbers_by l size len None = number_bytes l.big l.word (even size)
numbers_by l size len (Some e) = number_bytes l.big l.word len ++ number_bytes l.big l.word (even size)

abbrev pub new_numbers : ℕ → ℕ → Tiff → List ℕ
new_numbers size len tiff = numbers_by tiff.layout size len (first_entry 700 tiff.dirs)

-- the new entry: tag 700, type BYTE, the packet's length and its place
abbrev pub packet_entry : Layout → ℕ → ℕ → List ℕ
packet_entry l len place =
    number_bytes l.big 2 700 ++ (number_bytes l.big 2 1 ++ (number_bytes l.big l.word len ++ number_bytes l.big l.word place))

-- The copy of the first directory, in four parts: a count that is one more, the entries before the new one, this, and those after it with
-- the next offset. Ranges are those of the old file. Where there is an entry of the packet, nothing is copied.
pub record Copy : Type 0 where
  pub head : List ℕ
  pub before : FileSpan
  pub entry : List ℕ
  pub after : FileSpan

abbrev pub copy_by : Layout → ℕ → Dir → ℕ → Option Entry → Copy
copy_by l size d len (Some e) = record { head = []; before = span 0 0; entry = []; after = span 0 0 }
copy_by l size d len None = record {
  head = number_bytes l.big l.count (length d.entries + 1);
  before = span (d.at + l.count) (cut_place l d);
  entry = packet_entry l len (packet_place_by l size d None);
  after = span (cut_place l d) d.end;
}

abbrev pub new_copy : ℕ → ℕ → Tiff → Copy
new_copy size len tiff = copy_by tiff.layout size (first_dir tiff.dirs) len (first_entry 700 tiff.dirs)

abbrev pub copy_bytes : List ℕ → Copy → List ℕ
copy_bytes file c = c.head ++ (bytes_in file c.before ++ (c.entry ++ bytes_in file c.after))

-- The new file: the old one with the numbers exchanged, a zero byte where its length is odd, the copy, and the packet.
abbrev pub relocated : List ℕ → Tiff → List ℕ → List ℕ
relocated file tiff packet =
    put_at file (changed tiff).start (new_numbers (length file) (length packet) tiff)
    ++ (pad (length file) ++ (copy_bytes file (new_copy (length file) (length packet) tiff) ++ packet))

-- A first directory of 65,535 entries has no room for another.
abbrev pub lacks_room : Tiff → Bool
lacks_room tiff = is_none (first_entry 700 tiff.dirs) && nat_le 65535 (length (first_dir tiff.dirs).entries)

-- the numbers of a layout tell a file of so many bytes: those of a classic file have 32 bits
abbrev pub most_classic : ℕ
most_classic = 4294967295

abbrev pub tells : Layout → ℕ → Bool
tells l len = is_wide l || nat_le len most_classic
