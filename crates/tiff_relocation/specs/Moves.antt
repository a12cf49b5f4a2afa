-- A relocation as its numbers, and the bytes that it puts into the new file.
use Rattle.std.specs.Prelude.{ℕ, ◌+◌, ◌^◌, ◌≤◌, ◌<◌, ◌&&◌, nat_le, Bool, if◌then◌else◌, List, [], ◌++◌, length}
use Rattle.std.specs.Option.{is_none}
use Rattle.xmp_base.specs.declared.file_span.FileSpan.{FileSpan}
use Rattle.tiff_dirs.specs.Layouts.{Widths}
use Rattle.tiff_dirs.specs.Tiff.{Tiff, first_entry}
use Rattle.tiff_relocation.specs.declared.relocation.Relocation.{Relocation}
use Rattle.tiff_relocation.specs.Relocation.{changed, even, first_dir, new_copy, number_bytes, packet_entry, packet_place}

-- of a file of so many bytes
abbrev pub relocation_of : ℕ → Tiff → Relocation
relocation_of size tiff = record {
  layout = tiff.layout;
  size = size;
  changed = changed tiff;
  copied = is_none (first_entry 700 tiff.dirs);
  entries = length (first_dir tiff.dirs).entries;
  before = (new_copy size 0 tiff).before;
  after = (new_copy size 0 tiff).after;
  place = packet_place size tiff;
}

-- a range of a file of so many bytes
abbrev pub LiesIn : ℕ → FileSpan → Type 0
LiesIn size r = (r.start ≤ r.end) × (r.end ≤ size)

-- its ranges lie in the file, whose places and some more are numbers of 64 bits
pub record Lies (r : Relocation) : Type 0 where
  pub widths : Widths r.layout
  pub size : r.size ≤ 2 ^ 60
  pub changed : LiesIn r.size r.changed
  pub before : LiesIn r.size r.before
  pub after : LiesIn r.size r.after
  pub place : r.place < 2 ^ 63
  pub behind : even r.size ≤ r.place

-- the numbers of the layout hold the length of the new file, whose packet has so many bytes
abbrev pub MayTell : Relocation → ℕ → Type 0
MayTell r len = r.place + len < 256 ^ r.layout.word

-- a directory of 65,535 entries has no room for another
abbrev pub has_no_room : Relocation → Bool
has_no_room r = r.copied && nat_le 65535 r.entries

abbrev pub numbers : Relocation → ℕ → List ℕ
numbers r len =
    if r.copied then number_bytes r.layout.big r.layout.word (even r.size)
    else number_bytes r.layout.big r.layout.word len ++ number_bytes r.layout.big r.layout.word (even r.size)

-- the count of the copy, and the new entry
abbrev pub copy_head : Relocation → List ℕ
copy_head r = if r.copied then number_bytes r.layout.big r.layout.count (r.entries + 1) else []

abbrev pub copy_entry : Relocation → ℕ → List ℕ
copy_entry r len = if r.copied then packet_entry r.layout len r.place else []
