-- The bytes of directories that are kept, and what is read from them.
use Rattle.std.specs.Prelude.{◌≡◌, ℕ, ◌+◌, ◌-◌, ◌*◌, ◌≤◌, if◌then◌else◌, List, [], All, Contains, length, map, slice_get, Some, None}
use Rattle.std.specs.declared.option.Option.{Option}
use Rattle.tiff_dirs.specs.declared.layout.Layout.{Layout}
use Rattle.tiff_dirs.specs.declared.entry.Entry.{Entry}
use Rattle.tiff_dirs.specs.declared.pieces.Piece.{Piece}
use Rattle.tiff_dirs.specs.declared.directory.Reached.{Reached}
use Rattle.tiff_dirs.specs.declared.directory.Directory.{Directory}
use Rattle.tiff_dirs.specs.Directories.{span, entries_from}
use Rattle.tiff_dirs.specs.Faults.{value_out}
use Rattle.tiff_dirs.specs.Parts.{IsPart, entries_in_part}
use Rattle.tiff_dirs.specs.Tiff.{Dir}

-- a piece has the bytes of a file from its place on
abbrev pub Holds : List ℕ → Piece → Type 0
Holds file p = IsPart p.bytes.items p.start file

-- pieces that have a file's bytes still do after more was kept
abbrev pub Keeps : List ℕ → List Piece → List Piece → Type 0
Keeps file old new = All (Holds file) old → All (Holds file) new

-- the bytes from a place up to another lie in a piece
abbrev pub Covers : Piece → ℕ → ℕ → Type 0
Covers p from to = (p.start ≤ from) × (to ≤ p.start + length p.bytes.items)

-- in one of the pieces
abbrev pub InPiece : List Piece → ℕ → ℕ → Type 0
InPiece pieces from to = (p : Piece) × Contains pieces p × Covers p from to

-- so many bytes from a place on lie in a piece, which ends in a file of a length
pub record Has (len start size : ℕ) (p : Piece) : Type 0 where
  pub begins : p.start ≤ start
  pub ends : start + size ≤ p.start + length p.bytes.items
  pub within : p.start + length p.bytes.items ≤ len

-- the entries of a directory lie in its piece
abbrev pub IsPlaced : Layout → ℕ → List Piece → Directory → Type 0
IsPlaced l len pieces d = (p : Piece) × (slice_get pieces d.piece ≡ Some p) × Has len (d.place.at + l.count) (l.entry * d.place.count) p

-- no entry
abbrev pub blank : Entry
blank = record { place = 0; tag = 0; code = 0; count = 0; value = span 0 0 }

-- an entry whose value lies in the file; a walk that has no fault leaves no other
abbrev pub shown : Layout → ℕ → Entry → Entry
shown l len e = if value_out l len e then blank else e

-- so many entries from a place on, by the piece that has them
abbrev pub entries_by : Layout → ℕ → Option Piece → ℕ → ℕ → List Entry
entries_by l len None place n = []
entries_by l len (Some p) place n = map (shown l len) (entries_in_part l p.start p.bytes.items (place - p.start) n)

-- what a directory is to contracts
abbrev pub dir_by : Layout → ℕ → List Piece → Directory → Dir
dir_by l len pieces d = record {
  at = d.place.at;
  end = d.place.end;
  entries = entries_by l len (slice_get pieces d.piece) (d.place.at + l.count) d.place.count;
}

-- the same by the file's bytes
abbrev pub dir_in : Layout → List ℕ → Reached → Dir
dir_in l file r = record {
  at = r.at;
  end = r.end;
  entries = map (shown l (length file)) (entries_from l file (r.at + l.count) r.count);
}
