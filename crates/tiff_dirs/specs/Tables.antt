-- The tables of a file: what a walk reads of it.
use Rattle.std.specs.Prelude.{◌≡◌, ℕ, ◌+◌, ◌*◌, ◌≤◌, ◌==◌, ◌||◌, Bool, if◌then◌else◌, All, Contains, List, [], ◌∷◌, ◌++◌, flat_map, length, take, drop, IfOk, IfErr, Some, Err}
use Rattle.std.specs.declared.result.Result.{Result}
use Rattle.xmp_base.specs.declared.file_span.FileSpan.{FileSpan}
use Rattle.xmp_base.specs.Device.{DeskState, Told, Moved, Rose, SameFiles, NotFewer, bytes_of}
use Rattle.xmp_base.specs.Windows.{ReadInside}
use Rattle.tiff_dirs.specs.declared.layout.Layout.{Layout}
use Rattle.tiff_dirs.specs.declared.entry.Entry.{Entry}
use Rattle.tiff_dirs.specs.declared.stop.TiffStop.{TiffStop}
use Rattle.tiff_dirs.specs.declared.stop.TiffStop.TheVariants as stops
use Rattle.tiff_dirs.specs.declared.stop.WalkStop.{WalkStop}
use Rattle.tiff_dirs.specs.declared.stop.WalkStop.TheVariants as walk
use Rattle.tiff_dirs.specs.Numbers.{numbers}
use Rattle.tiff_dirs.specs.Types.{size_of}
use Rattle.tiff_dirs.specs.Parts.{IsPart}
use Rattle.tiff_dirs.specs.Directories.{span, entries_at, end_at}

-- SubIFDs, Exif, GPS and Interoperability directories; strips, tiles and JPEG interchange, with their lengths
abbrev pub is_table : Entry → Bool
is_table e =
    e.tag == 330 || e.tag == 34665 || e.tag == 34853 || e.tag == 40965
    || e.tag == 273 || e.tag == 279 || e.tag == 324 || e.tag == 325 || e.tag == 513 || e.tag == 514

-- the values that hold offsets and lengths
abbrev pub table_of : Entry → List FileSpan
table_of e = if is_table e then e.value ∷ [] else []

abbrev pub tables_in : List Entry → List FileSpan
tables_in entries = flat_map table_of entries

-- a directory, and the values of its entries that hold offsets and lengths
abbrev pub tables_at : Layout → List ℕ → ℕ → List FileSpan
tables_at l file at = span at (end_at l file at) ∷ tables_in (entries_at l file at)

-- the header, and those of each directory
abbrev pub tables_of : Layout → List ℕ → List ℕ → List FileSpan
tables_of l file offsets = span 0 l.header ∷ flat_map (tables_at l file) offsets

-- the bytes that were moved lie in one of the ranges
abbrev pub IsAmong : List FileSpan → Moved → Type 0
IsAmong spans m = (r : FileSpan) × Contains spans r × (r.start ≤ m.1) × (m.1 + m.2 ≤ r.end)

-- Reads of this name were added, each in one of the ranges, where the file is told.
pub record Reads (s t : DeskState) (name : List ℕ) (ranges : List ℕ → List FileSpan) : Type 0 where
  pub same : SameFiles s t
  pub counts : NotFewer s t
  pub lens : t.lens ≡ s.lens
  pub reads : Told s.reads (λ reads. (more : List Moved) × (t.reads ≡ Some (reads ++ more)) × All (λ m. m.0 ≡ name) more
      × Told s.files (λ files. All (IsAmong (ranges (bytes_of files name))) more))

-- the stop tells no fault
abbrev pub IsNoFault : WalkStop → Type 0
IsNoFault (walk.Fault rule place x y) = ⊥
IsNoFault walk.Device = Unit {0}
IsNoFault walk.Memory = Unit {0}

-- a part of a file was read, or taken from another
pub record LoadCall (s t : DeskState) (name : List ℕ) (start len : ℕ) (result : Result (List ℕ) WalkStop) : Type 0 where
  pub calls : ReadInside s t name start (start + len)
  pub size : IfOk result (λ bytes. length bytes ≡ len)
  pub bytes : IfOk result (λ bytes. Told s.files (λ files. bytes ≡ take len (drop start (bytes_of files name))))
  pub device : result ≡ Err walk.Device → Rose s.faults t.faults
  pub fault : IfErr result IsNoFault

-- so many items of an entry's value were read
pub record ItemsCall (l : Layout) (e : Entry) (count : ℕ) (s t : DeskState) (name : List ℕ) (result : Result (List ℕ) WalkStop) : Type 0 where
  pub calls : Reads s t name (λ _. e.value ∷ [])
  pub size : IfOk result (λ bytes. length bytes ≡ size_of l e.code * count)
  pub items : IfOk result (λ bytes. Told s.files (λ files.
      numbers l.big (size_of l e.code) 0 count bytes ≡ numbers l.big (size_of l e.code) e.value.start count (bytes_of files name)))
  pub part : IfOk result (λ bytes. Told s.files (λ files. IsPart bytes e.value.start (bytes_of files name)))
  pub device : result ≡ Err walk.Device → Rose s.faults t.faults
  pub fault : IfErr result IsNoFault

-- the same stop of a walk over a device
abbrev pub walk_stop : TiffStop → WalkStop
walk_stop (stops.Fault rule place x y) = walk.Fault rule place x y
walk_stop stops.Memory = walk.Memory
