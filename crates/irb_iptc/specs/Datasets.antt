-- IPTC datasets (IPTC-NAA Information Interchange Model 4.2, chapters 1.5 and 1.6), and why a block is none.
use Rattle.std.specs.Prelude.{◌≡◌, ◌≢◌, ℕ, ◌+◌, ◌*◌, ◌-◌, ◌<◌, ◌≤◌, ◌⊎◌, ◌==◌, true, false, List, [], ◌∷◌, ◌++◌, length, map, flat_map}
use Rattle.std.specs.List.{AllByRecursion, list_all}
use Rattle.byteorder.specs.Endian.{big_number}
use Rattle.xmp_values.specs.declared.rules.Rule.{Rule}
use Rattle.xmp_values.specs.declared.rules.Rule.TheVariants.{BadDataset, DatasetOut, DatasetLong}

-- a record number, a dataset number, the octets that count the bytes, and the bytes
pub record Dataset : Type 0 where
  pub section : ℕ
  pub number : ℕ
  pub count : List ℕ
  pub bytes : List ℕ

-- each begins with the tag marker
abbrev pub text : Dataset → List ℕ
text d = 0x1C ∷ d.section ∷ d.number ∷ (d.count ++ d.bytes)

-- the number of further octets that an extended count has
abbrev pub width : ℕ → ℕ → ℕ
width high low = 256 * (high - 128) + low

-- A count of two octets, of which the first is below 128; or two octets that give the number of further ones, 1 to 4, which
-- give the count.
pub data Counts (count : List ℕ) (n : ℕ) : Type 0 where
  standard : (high low : ℕ) → count ≡ high ∷ low ∷ [] → high < 128 → n ≡ 256 * high + low → Counts count n
  extended : (high low : ℕ) (octets : List ℕ) → count ≡ high ∷ low ∷ octets → 128 ≤ high → length octets ≡ width high low
      → 0 < width high low → width high low ≤ 4 → n ≡ big_number (width high low) octets → Counts count n

abbrev pub IsDataset : Dataset → Type 0
IsDataset d = Counts d.count (length d.bytes)

-- zero bytes alone are left, or none
abbrev pub EndsBlock : List ℕ → Type 0
EndsBlock rest = list_all (λ b. b == 0) rest ≡ true

-- what a block says in its datasets: record number, dataset number, bytes
abbrev pub Field : Type 0
Field = ℕ × ℕ × List ℕ

abbrev pub field : Dataset → Field
field d = (d.section, d.number, d.bytes)

-- the datasets of a block
pub record Iptc (block : List ℕ) (fields : List Field) : Type 0 where
  pub datasets : List Dataset
  pub tail : List ℕ
  pub bytes : block ≡ flat_map text datasets ++ tail
  pub each : AllByRecursion IsDataset datasets
  pub ends : EndsBlock tail
  pub listed : fields ≡ map field datasets

-- why no dataset stands where one must begin
pub data Breaks (rest : List ℕ) : Rule → Type 0 where
  -- another byte, and then not zero bytes alone
  unmarked : (c : ℕ) (more : List ℕ) → rest ≡ c ∷ more → c ≢ 0x1C → list_all (λ b. b == 0) rest ≡ false → Breaks rest BadDataset
  -- no further octets, or more than four
  too_wide : (a b high low : ℕ) (more : List ℕ) → rest ≡ 0x1C ∷ a ∷ b ∷ high ∷ low ∷ more → 128 ≤ high
      → (width high low ≡ 0) ⊎ (4 < width high low) → Breaks rest DatasetLong
  -- the block ends in the numbers, in the further octets, or in the bytes
  in_head : (more : List ℕ) → rest ≡ 0x1C ∷ more → length more < 4 → Breaks rest DatasetOut
  in_count : (a b high low : ℕ) (more : List ℕ) → rest ≡ 0x1C ∷ a ∷ b ∷ high ∷ low ∷ more → 128 ≤ high
      → 0 < width high low → width high low ≤ 4 → length more < width high low → Breaks rest DatasetOut
  in_bytes : (a b n : ℕ) (count more : List ℕ) → rest ≡ 0x1C ∷ a ∷ b ∷ (count ++ more) → Counts count n → length more < n → Breaks rest DatasetOut

-- the first place where no dataset stands, and why
pub record Fails (block : List ℕ) (rule : Rule) (place : ℕ) : Type 0 where
  pub datasets : List Dataset
  pub rest : List ℕ
  pub bytes : block ≡ flat_map text datasets ++ rest
  pub each : AllByRecursion IsDataset datasets
  pub breaks : Breaks rest rule
  pub start : place ≡ length (flat_map text datasets)
