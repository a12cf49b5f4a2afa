-- What a reader of datasets knows after each step.
use Rattle.std.specs.Prelude.{◌≡◌, ℕ, ◌+◌, ◌<◌, ◌≤◌, ◌⊎◌, List, ◌∷◌, ◌++◌, length, take, drop, map, flat_map, Option, Some, None, Ok, Err, All}
use Rattle.std.specs.declared.result.Result.{Result}
use Rattle.std.specs.List.{AllByRecursion}
use Rattle.xmp_values.specs.declared.rules.Rule.{Rule}
use Rattle.xmp_values.specs.declared.stops.PlaceStop.{PlaceStop}
use Rattle.xmp_values.specs.Stops.{Answers, place_of}
use Rattle.irb_iptc.specs.declared.entry.Entry.{Entry}
use Rattle.irb_iptc.specs.Datasets.{Dataset, Field, Iptc, Fails, Breaks, Counts, IsDataset, EndsBlock, text, field, width}
use Rattle.xmp_values.specs.declared.rules.Rule.TheVariants.{DatasetOut, DatasetLong}

-- an entry is to contracts the numbers and the bytes of the block
abbrev pub field_of : List ℕ → Entry → Field
field_of block e = (e.section, e.number, take e.len (drop e.start block))

abbrev pub IsWithin : ℕ → Entry → Type 0
IsWithin end e = e.start + e.len ≤ end

-- a dataset stands at the front of the rest of a block
pub record IsEntry (block : List ℕ) (at : ℕ) (e : Entry) : Type 0 where
  pub dataset : Dataset
  pub is : IsDataset dataset
  pub bytes : drop at block ≡ text dataset ++ drop (e.start + e.len) block
  pub field : field_of block e ≡ field dataset
  pub place : e.start + e.len ≡ at + length (text dataset)

-- what stands at a place
abbrev pub EntryAt : List ℕ → ℕ → Result (Option Entry) Rule → Type 0
EntryAt block at (Ok None) = EndsBlock (drop at block)
EntryAt block at (Ok (Some e)) = IsEntry block at e
EntryAt block at (Err rule) = Breaks (drop at block) rule

-- the dataset whose marker stands there
abbrev pub MarkedAt : List ℕ → ℕ → Result Entry Rule → Type 0
MarkedAt block at (Ok e) = IsEntry block at e
MarkedAt block at (Err rule) = Breaks (drop at block) rule

-- up to a place the block is these datasets
pub record Underway (block : List ℕ) (entries : List Entry) (at : ℕ) : Type 0 where
  pub datasets : List Dataset
  pub bytes : block ≡ flat_map text datasets ++ drop at block
  pub place : at ≡ length (flat_map text datasets)
  pub each : AllByRecursion IsDataset datasets
  pub listed : map (field_of block) entries ≡ map field datasets
  pub inside : All (IsWithin (length block)) entries

-- the datasets of the block, or its first fault
abbrev pub IptcAnswer : List ℕ → Result (List Field) PlaceStop → Type 0
IptcAnswer block result = Answers place_of result (Iptc block) (λ f. Fails block f.0 f.1)

-- what the bytes begin with that follow a dataset's numbers
pub data NoCount (bytes : List ℕ) : Rule → Type 0 where
  wide : (high low : ℕ) (more : List ℕ) → bytes ≡ high ∷ low ∷ more → 128 ≤ high → (width high low ≡ 0) ⊎ (4 < width high low) → NoCount bytes DatasetLong
  short : (high low : ℕ) (more : List ℕ) → bytes ≡ high ∷ low ∷ more → 128 ≤ high → 0 < width high low → width high low ≤ 4
      → length more < width high low → NoCount bytes DatasetOut

abbrev pub CountIs : List ℕ → Result (ℕ × ℕ) Rule → Type 0
CountIs bytes (Ok c) = Counts (take c.0 bytes) c.1
CountIs bytes (Err rule) = NoCount bytes rule
