-- Where the values and the tables of a file stand, and what a packet that is exchanged in its place leaves.
use Rattle.std.specs.Prelude.{◌≡◌, ℕ, ◌+◌, ◌-◌, ◌≤◌, List, length, Contains, true, false, Some}
use Rattle.xmp_base.specs.Device.{put_at}
use Rattle.xmp_base.specs.declared.file_span.FileSpan.{FileSpan}
use Rattle.tiff_dirs.specs.declared.layout.Layout.{Layout}
use Rattle.tiff_dirs.specs.declared.entry.Entry.{Entry}
use Rattle.tiff_dirs.specs.Types.{is_packet}
use Rattle.tiff_dirs.specs.Layouts.{layout_of}
use Rattle.tiff_dirs.specs.Directories.{is_apart}
use Rattle.tiff_dirs.specs.Tiff.{Tiff, first_entry}
use Rattle.tiff_dirs.specs.Model.{Found, IsTiff}
use Rattle.tiff_dirs.specs.Tables.{tables_of}
use Rattle.tiff_dirs.specs.Overlaps.{others_in}

-- a range that lies in one of these
abbrev pub Within : List FileSpan → FileSpan → Type 0
Within spans r = (s : FileSpan) × Contains spans s × (s.start ≤ r.start) × (r.end ≤ s.end)

-- The tables of a file lie in its named ranges other than the packet's value and the pictures.
abbrev pub TablesStand : Type 0
TablesStand = (file : List ℕ) (tiff : Tiff) (found : Found file tiff) (pictures : List FileSpan) (r : FileSpan) → Contains (tables_of (layout_of file) file found.offsets) r
    → Within (others_in tiff.layout 700 tiff.dirs pictures) r

-- The value of an entry lies in the file. It has at most a word where it stands in its entry, and a packet's is of its types.
pub record Stands (l : Layout) (file : List ℕ) (tag : ℕ) (e : Entry) : Type 0 where
  pub order : e.value.start ≤ e.value.end
  pub within : e.value.end ≤ length file
  pub short : is_apart l e ≡ false → e.value.end ≤ e.value.start + l.word
  pub typed : tag ≡ 700 → is_packet e.code ≡ true

-- so does the first entry of a tag in the first directory
abbrev pub EntriesStand : Type 0
EntriesStand = (file : List ℕ) (tiff : Tiff) → Found file tiff → (tag : ℕ) (e : Entry) → first_entry tag tiff.dirs ≡ Some e → Stands tiff.layout file tag e

-- A packet that stands apart from its entry is exchanged in its place for as many bytes: the file has the same directories and
-- pictures, and no named range meets another that may not.
abbrev pub PacketInPlace : Type 0
PacketInPlace = (file : List ℕ) (tiff : Tiff) (e : Entry) (now : List ℕ) → IsTiff file tiff → first_entry 700 tiff.dirs ≡ Some e → is_apart tiff.layout e ≡ true
    → length now ≡ e.value.end - e.value.start → IsTiff (put_at file e.value.start now) tiff
