-- Pairs of offsets and lengths, by where their tables stand, and the ranges that they name.
use Rattle.std.specs.Prelude.{◌≡◌, ℕ, ◌-◌, ◌*◌, Bool, List, [], ◌∷◌, All, length, take, drop, flat_map, sum_by, slice_get, Ok, Err, Some, None}
use Rattle.std.specs.declared.option.Option.{Option}
use Rattle.std.specs.declared.result.Result.{Result}
use Rattle.xmp_base.specs.declared.file_span.FileSpan.{FileSpan}
use Rattle.tiff_dirs.specs.declared.stop.TiffStop.{TiffStop}
use Rattle.tiff_dirs.specs.declared.pieces.Piece.{Piece}
use Rattle.tiff_dirs.specs.declared.tables.Pair.{Pair}
use Rattle.tiff_dirs.specs.declared.tables.PlacedPair.{PlacedPair}
use Rattle.tiff_dirs.specs.declared.tables.CountedPair.{CountedPair}
use Rattle.tiff_dirs.specs.declared.tables.Pairs.{Pairs}
use Rattle.tiff_dirs.specs.declared.listed.Listed.{Listed}
use Rattle.tiff_dirs.specs.Numbers.{numbers}
use Rattle.tiff_dirs.specs.Sizes.{IsSized}
use Rattle.tiff_dirs.specs.Pictures.{Picture, ranges, spans_of}
use Rattle.tiff_dirs.specs.Faults.{pictures_fault}
use Rattle.tiff_dirs.specs.Kept.{Has}

-- the ranges of a pair from an index on, by the bytes of its offsets and of its lengths
unfoldable pub ranges_from : Bool → Pair → List ℕ → List ℕ → ℕ → List Picture
ranges_from big p offsets lens k =
    ranges p.place (numbers big p.offsets.width (p.offsets.width * k) (p.count - k) offsets) (numbers big p.lens.width (p.lens.width * k) (p.count - k) lens)

abbrev pub listed_from : Listed → ℕ → List Picture
listed_from l k = ranges_from l.big l.pair l.offsets.now l.lens.now k

-- what an offset and a length name, of the ranges from there on and those after
abbrev pub RangeAnswer : ℕ → List Picture → List Picture → ℕ → Result (Option FileSpan) TiffStop → Type 0
RangeAnswer len here rest place (Ok None) = here ≡ rest
RangeAnswer len here rest place (Ok (Some r)) = (here ≡ record { place = place; range = r } ∷ rest) × (pictures_fault len here ≡ pictures_fault len rest)
RangeAnswer len here rest place (Err stop) = pictures_fault len here ≡ Some stop

-- how many ranges there are, where each lies in the file, or the first fault
abbrev pub CountAnswer : ℕ → List Picture → Result ℕ TiffStop → Type 0
CountAnswer len all (Ok n) = (n ≡ length all) × (pictures_fault len all ≡ None)
CountAnswer len all (Err stop) = pictures_fault len all ≡ Some stop

-- all ranges of a pair, by the bytes of the file
unfoldable pub ranges_in : Bool → List ℕ → Pair → List Picture
ranges_in big file p =
    ranges p.place (numbers big p.offsets.width p.offsets.start p.count file) (numbers big p.lens.width p.lens.start p.count file)

-- those of pairs
unfoldable pub spans_in : Bool → List ℕ → List Pair → List FileSpan
spans_in big file pairs = flat_map (λ p. spans_of (ranges_in big file p)) pairs

-- the bytes of a piece from a place of the file on
abbrev pub bytes_by : Option Piece → ℕ → List ℕ
bytes_by None start = []
bytes_by (Some p) start = drop (start - p.start) p.bytes.items

-- all ranges of a pair, by the pieces that have its tables
unfoldable pub ranges_by : Bool → List Piece → PlacedPair → List Picture
ranges_by big pieces p =
    ranges_from big p.pair (bytes_by (slice_get pieces p.offsets) p.pair.offsets.start) (bytes_by (slice_get pieces p.lens) p.pair.lens.start) 0

-- those of pairs
unfoldable pub spans_by : Bool → List Piece → List CountedPair → List FileSpan
spans_by big pieces pairs = flat_map (λ c. spans_of (ranges_by big pieces c.placed)) pairs

-- so many bytes from a place on lie in the piece of an index
abbrev pub IsTable : ℕ → List Piece → ℕ → ℕ → ℕ → Type 0
IsTable len pieces k start size = (p : Piece) × (slice_get pieces k ≡ Some p) × Has len start size p

-- the tables of a pair lie in its pieces
pub record IsPair (len : ℕ) (pieces : List Piece) (p : PlacedPair) : Type 0 where
  pub sized : IsSized p.pair
  pub offsets : IsTable len pieces p.offsets p.pair.offsets.start (p.pair.offsets.width * p.pair.count)
  pub lens : IsTable len pieces p.lens p.pair.lens.start (p.pair.lens.width * p.pair.count)

-- and its ranges lie in the file, and are counted
pub record IsCounted (big : Bool) (len : ℕ) (pieces : List Piece) (c : CountedPair) : Type 0 where
  pub placed : IsPair len pieces c.placed
  pub clear : pictures_fault len (ranges_by big pieces c.placed) ≡ None
  pub shown : c.shown ≡ length (ranges_by big pieces c.placed)

abbrev pub count_of : List CountedPair → ℕ
count_of pairs = sum_by (λ c. c.shown) pairs

-- each pair has the number of the ranges before it
abbrev pub IsRanked : List CountedPair → Type 0
IsRanked pairs = (k : ℕ) (c : CountedPair) → slice_get pairs k ≡ Some c → c.first ≡ count_of (take k pairs)

-- the pairs of a file, as they are kept
pub record AreKept (big : Bool) (len : ℕ) (pieces : List Piece) (p : Pairs) : Type 0 where
  pub each : All (IsCounted big len pieces) p.list.items
  pub ranked : IsRanked p.list.items
  pub total : p.total ≡ count_of p.list.items
