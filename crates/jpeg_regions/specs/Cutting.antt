-- What is known of a file while it is cut.
use Rattle.std.specs.Prelude.{◌≡◌, ℕ, ◌+◌, ◌<◌, ◌≤◌, List, [], ◌∷◌, ◌++◌, length, take, drop, map, flat_map, Some, None}
use Rattle.std.specs.declared.option.Option.{Option}
use Rattle.std.specs.declared.result.Result.{Result}
use Rattle.std.specs.List.{AllByRecursion}
use Rattle.jpeg_regions.specs.declared.reading.Found.{Found}
use Rattle.jpeg_regions.specs.declared.reading.Reading.{Reading}
use Rattle.xmp_values.specs.declared.stops.PlaceStop.{PlaceStop}
use Rattle.xmp_values.specs.Stops.{Answers, place_of}
use Rattle.jpeg_regions.specs.Jpeg.{Segment, Region, text, placed, IsInner, Cuts, Broken, Jpeg, FirstFault, FaultIn}
use Rattle.jpeg_regions.specs.Reads.{Reads, region_of, work}

-- the kind of a file that can be cut: it begins with the marker of an image's start
abbrev pub BeginsJpeg : List ℕ → Type 0
BeginsJpeg file = take 2 file ≡ 0xFF ∷ 0xD8 ∷ []

-- the regions lie one after another from a place up to another, each with its payload after its marker
abbrev pub Tiles : ℕ → ℕ → List Region → Type 0
Tiles at end [] = at ≡ end
Tiles at end (r ∷ rs) = (r.range.start ≡ at) × (at < r.payload.start) × (r.payload.start ≤ r.payload.end) × (r.payload.end ≤ r.range.end)
    × Tiles r.range.end end rs

-- the list of the file, or its first fault
abbrev pub CutAnswer : List ℕ → Result (List Region) PlaceStop → Type 0
CutAnswer file result = Answers place_of result (Jpeg file) (λ f. FirstFault file f.0 f.1)

-- up to a place the file is FF D8 and these regions, none of which is the tail
pub record Underway (file : List ℕ) (found : List Found) (start : ℕ) : Type 0 where
  pub segments : List Segment
  pub bytes : file ≡ 0xFF ∷ 0xD8 ∷ (flat_map text segments ++ drop start file)
  pub place : start ≡ 2 + length (flat_map text segments)
  pub inner : AllByRecursion IsInner segments
  pub listed : map region_of found ≡ placed 2 segments

abbrev pub CutSoFar : List ℕ → List Found → Option Reading → Type 0
CutSoFar file found (Some reading) = Underway file found reading.start × Reads file reading.start reading.at reading.wants
CutSoFar file found None = Cuts file (map region_of found)

-- the same without the file's bytes
abbrev pub Numbers : ℕ → List Found → Option Reading → Type 0
Numbers len found (Some reading) = (reading.len ≡ len) × Tiles 2 reading.start (map region_of found)
Numbers len found None = Tiles 2 len (map region_of found)

-- how much is left to do at most
abbrev pub left : Option Reading → ℕ
left (Some reading) = 1 + work reading.len reading.at reading.wants
left None = 0

-- a fault of a file of `len` bytes, whatever these are
abbrev pub IsFaultIn : {A : Type 0} → ℕ → Result A PlaceStop → Type 0
IsFaultIn len result = Answers place_of result (λ _. Unit {0}) (λ f. FaultIn len f.1 f.0)

abbrev pub TakeAnswer : List ℕ → List Found → Result (Option Reading) PlaceStop → Type 0
TakeAnswer file found result = Answers place_of result (CutSoFar file found) (λ f. Broken file f.0 f.1)
