-- When the numbers that a relocation exchanges are numbers alone, and what it makes of the directories then.
use Rattle.std.specs.Prelude.{◌≡◌, ℕ, ◌+◌, ◌^◌, ◌≤◌, ◌<◌, ◌⊎◌, List, ◌∷◌, ◌++◌, All, drop, flat_map, length, slice_get, take, None, Some}
use Rattle.std.specs.declared.option.Option.{Option}
use Rattle.xmp_base.specs.declared.file_span.FileSpan.{FileSpan}
use Rattle.tiff_dirs.specs.declared.layout.Layout.{Layout}
use Rattle.tiff_dirs.specs.declared.entry.Entry.{Entry}
use Rattle.tiff_dirs.specs.Directories.{span}
use Rattle.tiff_dirs.specs.Frames.{Agree}
use Rattle.tiff_dirs.specs.Model.{IsTiff}
use Rattle.tiff_dirs.specs.Overlaps.{Meets, apart_of, dir_span, named_in}
use Rattle.tiff_dirs.specs.Tiff.{Dir, Tiff, first_entry}
use Rattle.tiff_relocation.specs.Relocation.{changed, first_dir, packet_place, relocated}

-- the range that holds them not: the header, where they stand in the first directory, and that directory, where they stand in the header
abbrev pub not_holding : Layout → Dir → Option Entry → FileSpan
not_holding l d None = dir_span d
not_holding l d (Some e) = span 0 l.header

-- the named ranges other than the directory or the header that holds the exchanged numbers
abbrev pub elsewhere : Tiff → List FileSpan
elsewhere tiff =
    not_holding tiff.layout (first_dir tiff.dirs) (first_entry 700 tiff.dirs)
    ∷ (flat_map (apart_of tiff.layout) (first_dir tiff.dirs).entries ++ (flat_map (λ d. named_in tiff.layout d d.entries) (drop 1 tiff.dirs) ++ tiff.pictures))

-- the exchanged numbers meet none of them
abbrev pub IsApart : Tiff → Type 0
IsApart tiff = All (λ r. Meets (changed tiff) r → ⊥) (elsewhere tiff)

-- the first directory has room for another entry, where it needs one
abbrev pub HasRoom : Option Entry → Dir → Type 0
HasRoom None d = length d.entries < 65535
HasRoom (Some e) d = Unit {0}

-- a packet that the numbers of the layout can tell, and that doesn't stand in its entry
pub record MayMove (file : List ℕ) (tiff : Tiff) (packet : List ℕ) : Type 0 where
  pub room : HasRoom (first_entry 700 tiff.dirs) (first_dir tiff.dirs)
  pub long : tiff.layout.word < length packet
  pub told : packet_place (length file) tiff + length packet < 256 ^ tiff.layout.word

-- the directories of the new file: its packet is the new one, and its pictures are those of the old file
pub record IsMoved (file : List ℕ) (tiff : Tiff) (packet : List ℕ) : Type 0 where
  pub now : Tiff
  pub walked : IsTiff (relocated file tiff packet) now
  pub layout : now.layout ≡ tiff.layout
  pub pictures : now.pictures ≡ tiff.pictures
  pub entry : Entry
  pub first : first_entry 700 now.dirs ≡ Some entry
  pub value : entry.value ≡ span (packet_place (length file) tiff) (packet_place (length file) tiff + length packet)

-- Where the exchanged numbers are apart, the new file has directories, the new packet and the old pictures.
abbrev pub NewFileIsWalked : Type 0
NewFileIsWalked = (file : List ℕ) (tiff : Tiff) (packet : List ℕ) → IsTiff file tiff → IsApart tiff → MayMove file tiff packet → IsMoved file tiff packet

-- All but the exchanged numbers stays, whatever names them; and where these are apart, each picture keeps its bytes. The first bytes, which
-- tell the layout, stay always.
abbrev pub OldBytesStay : Type 0
OldBytesStay = (file : List ℕ) (tiff : Tiff) (packet : List ℕ) → IsTiff file tiff
    → ((place : ℕ) → place < length file → (place < (changed tiff).start) ⊎ ((changed tiff).end ≤ place) → slice_get (relocated file tiff packet) place ≡ slice_get file place)
    × (IsApart tiff → Agree file (relocated file tiff packet) tiff.pictures)
    × (take tiff.layout.word (relocated file tiff packet) ≡ take tiff.layout.word file)
