-- What reading a list in a range of a device's file does and answers.
use Rattle.std.specs.Prelude.{◌≡◌, ◌⊎◌, ℕ, ◌+◌, ◌-◌, ◌≤◌, List, ◌++◌, take, drop, All, MatchResult, Some, Ok, Err}
use Rattle.std.specs.List.{AllByRecursion}
use Rattle.std.specs.declared.result.Result.{Result}
use Rattle.xmp_base.specs.Device.{DeskState, Told, Moved, Rose, SameFiles, NotFewer, bytes_of}
use Rattle.xmp_base.specs.Windows.{IsInside}
use Rattle.irb_iptc.specs.declared.stops.ScanStop.{ScanStop}
use Rattle.irb_iptc.specs.declared.stops.ScanStop.TheVariants.{Fault, Device, Memory}
use Rattle.irb_iptc.specs.Resources.{Resource, Begins}
use Rattle.irb_iptc.specs.Listing.{Placed, Listing, Lists, Broken, Tiles, placed}

-- the bytes of a file from one place up to another
abbrev pub range_of : List ℕ → ℕ → ℕ → List ℕ
range_of file at end = take (end - at) (drop at file)

-- bytes that were moved meet no block's data
abbrev pub MeetsNoData : List Placed → Moved → Type 0
MeetsNoData blocks m = AllByRecursion (λ b. (m.1 + m.2 ≤ b.body.start) ⊎ (b.body.end ≤ m.1)) blocks

-- Reads of this name in the range were added. Where the file is told, none meets the data of a block that stands in the list.
pub record ScanReads (s t : DeskState) (name : List ℕ) (at end : ℕ) : Type 0 where
  pub same : SameFiles s t
  pub counts : NotFewer s t
  pub lens : t.lens ≡ s.lens
  pub reads : Told s.reads (λ reads. (more : List Moved) × (t.reads ≡ Some (reads ++ more)) × All (IsInside name at end) more
      × Told s.files (λ files. (blocks : List Resource) (rest : List ℕ) → Begins (range_of (bytes_of files name) at end) blocks rest
      → All (MeetsNoData (placed at blocks)) more))

-- the list of the range, or the place of the block that it ends in
abbrev pub ScanAnswer : List ℕ → ℕ → Result Listing ScanStop → Type 0
ScanAnswer bytes at (Ok listing) = Lists bytes at listing
ScanAnswer bytes at (Err (Fault place)) = Broken bytes at place
ScanAnswer bytes at (Err Device) = Unit {0}
ScanAnswer bytes at (Err Memory) = Unit {0}

-- a fault stands in the range, whatever the device tells of its bytes
abbrev pub StopsIn : ℕ → ℕ → ScanStop → Type 0
StopsIn at end (Fault place) = (at ≤ place) × (place ≤ end)
StopsIn at end Device = Unit {0}
StopsIn at end Memory = Unit {0}

-- The clauses of `scan`, from the desk's state s to t.
pub record ScanCall (s t : DeskState) (name : List ℕ) (at end : ℕ) (result : Result Listing ScanStop) : Type 0 where
  pub calls : ScanReads s t name at end
  pub told : Told s.files (λ files. ScanAnswer (range_of (bytes_of files name) at end) at result)
  pub within : MatchResult result (Tiles at end) (StopsIn at end)
  pub device : result ≡ Err Device → Rose s.faults t.faults
