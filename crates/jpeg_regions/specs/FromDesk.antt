-- What cutting a file of a device does and answers.
use Rattle.std.specs.Prelude.{◌≡◌, ◌⊎◌, ℕ, ◌+◌, ◌≤◌, min, List, ◌++◌, All, IfOk, IsTrue, slice_get, Err, Some}
use Rattle.std.specs.declared.option.Option.{Option}
use Rattle.std.specs.declared.result.Result.{Result}
use Rattle.xmp_base.specs.Device.{DeskState, Told, Moved, Rose, SameFiles, NotFewer, OthersKeep, bytes_of, is_known, len_of}
use Rattle.xmp_base.specs.Windows.{MovesInside}
use Rattle.jpeg_regions.specs.declared.reading.Found.{Found}
use Rattle.jpeg_regions.specs.declared.reading.Reading.{Reading}
use Rattle.xmp_values.specs.declared.stops.DeviceStop.{DeviceStop}
use Rattle.xmp_values.specs.declared.stops.DeviceStop.TheVariants.{Fault, Device}
use Rattle.xmp_values.specs.Stops.{Answers, device_place_of}
use Rattle.xmp_values.specs.declared.rules.Rule.TheVariants.{NoTail}
use Rattle.jpeg_regions.specs.Jpeg.{Region, Cuts, Jpeg, Broken, FirstFault, FaultIn}
use Rattle.jpeg_regions.specs.Cutting.{CutSoFar, Tiles}

-- the list of the file, or its first fault
abbrev pub CutFromAnswer : List ℕ → Result (List Region) DeviceStop → Type 0
CutFromAnswer file result = Answers device_place_of result (Jpeg file) (λ f. FirstFault file f.0 f.1)

-- the end of what is read of a region: of the tail its marker, else at most 75 bytes of the payload
abbrev pub near_end : Region → ℕ
near_end r = min r.payload.end (r.payload.start + 75)

-- the bytes that were moved lie in what is read of a region
abbrev pub IsNear : List Region → Moved → Type 0
IsNear regions m = (i : ℕ) × (r : Region) × (slice_get regions i ≡ Some r) × (r.range.start ≤ m.1) × (m.1 + m.2 ≤ near_end r)

-- Reads of this name were added. Where the file is told and can be cut, they are near the beginnings of its regions.
pub record ReadsNear (s t : DeskState) (name : List ℕ) : Type 0 where
  pub named : Told s.reads (λ reads. (more : List Moved) × (t.reads ≡ Some (reads ++ more)) × All (λ m. m.0 ≡ name) more
      × Told s.files (λ files. (regions : List Region) → Cuts (bytes_of files name) regions → All (λ m. IsNear regions m) more))

-- what a piece more of a file leads to
abbrev pub AdvanceAnswer : List ℕ → List Found → Result (Option Reading) DeviceStop → Type 0
AdvanceAnswer file found result = Answers device_place_of result (CutSoFar file found) (λ f. Broken file f.0 f.1)

-- What a call of a device's file does, whatever it answers.
pub record CutCalls (s t : DeskState) (name : List ℕ) : Type 0 where
  pub same : SameFiles s t
  pub counts : NotFewer s t
  pub reads : ReadsNear s t name

-- a fault of a file of `len` bytes, whatever the device tells of these
abbrev pub StopsIn : {A : Type 0} → ℕ → Result A DeviceStop → Type 0
StopsIn len result = Answers device_place_of result (λ _. Unit {0}) (λ f. FaultIn len f.1 f.0)

-- The clauses of `cut_known`, for a file of `len` bytes.
pub record CutKnownCall (s t : DeskState) (name : List ℕ) (len : ℕ) (result : Result (List Region) DeviceStop) : Type 0 where
  pub calls : CutCalls s t name
  -- all that was read lies in the file
  pub inside : MovesInside name 0 len s.reads t.reads
  pub lens : t.lens ≡ s.lens
  pub told : Told s.files (λ files. CutFromAnswer (bytes_of files name) result)
  -- the regions lie one after another in the file
  pub tiles : IfOk result (λ regions. Tiles 2 len regions)
  pub fault : StopsIn len result
  pub device : result ≡ Err Device → Rose s.faults t.faults

-- the file has gone: it has no byte left
pub record IsGone (s t : DeskState) (result : Result (List Region) DeviceStop) : Type 0 where
  pub is : result ≡ Err (Fault NoTail 0)
  pub missed : Rose s.misses t.misses

-- The clauses of `cut_from`, from the desk's state s to t.
pub record CutFromCall (s t : DeskState) (name : List ℕ) (result : Result (List Region) DeviceStop) : Type 0 where
  pub calls : CutCalls s t name
  pub others : OthersKeep s.lens t.lens name
  pub known : IsTrue (is_known t name)
  pub told : Told s.files (λ files. CutFromAnswer (bytes_of files name) result)
  -- the regions lie one after another in the file
  pub tiles : IfOk result (λ regions. Tiles 2 (len_of t name) regions)
  pub fault : StopsIn (len_of t name) result ⊎ IsGone s t result
  pub device : result ≡ Err Device → Rose s.faults t.faults
