-- What a walk over a device does and answers, and a walk in memory.
use Rattle.std.specs.Prelude.{◌≡◌, ℕ, ◌++◌, All, IsTrue, List, Ok, Err, Some}
use Rattle.std.specs.declared.result.Result.{Result}
use Rattle.xmp_base.specs.Device.{DeskState, Told, Moved, Rose, SameFiles, NotFewer, OthersKeep, bytes_of, is_known}
use Rattle.tiff_dirs.specs.declared.stop.TiffStop.{TiffStop}
use Rattle.tiff_dirs.specs.declared.stop.TiffStop.TheVariants.{Fault, Memory}
use Rattle.tiff_dirs.specs.declared.stop.WalkStop.{WalkStop}
use Rattle.tiff_dirs.specs.declared.stop.WalkStop.TheVariants as walk
use Rattle.tiff_dirs.specs.Layouts.{layout_of}
use Rattle.tiff_dirs.specs.Offsets.{Walks, Broken}
use Rattle.tiff_dirs.specs.Tiff.{Tiff}
use Rattle.tiff_dirs.specs.Model.{Found, IsTiff, FirstFault}
use Rattle.tiff_dirs.specs.Tables.{IsAmong, tables_of}

-- the directories of the file, or its first fault
abbrev pub WalkAnswer : List ℕ → Result Tiff TiffStop → Type 0
WalkAnswer file (Ok tiff) = IsTiff file tiff
WalkAnswer file (Err (Fault rule place x y)) = FirstFault file (Fault rule place x y)
WalkAnswer file (Err Memory) = Unit {0}

-- the same over a device
abbrev pub WalkFromAnswer : List ℕ → Result Tiff WalkStop → Type 0
WalkFromAnswer file (Ok tiff) = IsTiff file tiff
WalkFromAnswer file (Err (walk.Fault rule place x y)) = FirstFault file (Fault rule place x y)
WalkFromAnswer file (Err walk.Device) = Unit {0}
WalkFromAnswer file (Err walk.Memory) = Unit {0}

-- before the named ranges are gone over
abbrev pub FindAnswer : List ℕ → Result Tiff WalkStop → Type 0
FindAnswer file (Ok tiff) = Found file tiff
FindAnswer file (Err (walk.Fault rule place x y)) = Broken file (Fault rule place x y)
FindAnswer file (Err walk.Device) = Unit {0}
FindAnswer file (Err walk.Memory) = Unit {0}

-- Reads of this name were added. Where the file is told and its offsets have no fault, each lies in the header, in a directory or
-- in a value of offsets or lengths.
pub record WalkReads (s t : DeskState) (name : List ℕ) : Type 0 where
  pub same : SameFiles s t
  pub counts : NotFewer s t
  pub reads : Told s.reads (λ reads. (more : List Moved) × (t.reads ≡ Some (reads ++ more)) × All (λ m. m.0 ≡ name) more
      × Told s.files (λ files. (offsets : List ℕ) → Walks (bytes_of files name) offsets
      → All (IsAmong (tables_of (layout_of (bytes_of files name)) (bytes_of files name) offsets)) more))

-- The clauses of `walk_from`, from the desk's state s to t.
pub record WalkFromCall (s t : DeskState) (name : List ℕ) (result : Result Tiff WalkStop) : Type 0 where
  pub calls : WalkReads s t name
  pub others : OthersKeep s.lens t.lens name
  pub known : IsTrue (is_known t name)
  pub told : Told s.files (λ files. WalkFromAnswer (bytes_of files name) result)
  pub device : result ≡ Err walk.Device → Rose s.faults t.faults
