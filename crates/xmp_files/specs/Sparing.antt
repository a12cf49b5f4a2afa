-- The bytes of a file that aren't read.
use Rattle.std.specs.Prelude.{◌≡◌, ℕ, ◌+◌, ◌≤◌, ◌<◌, ◌⊎◌, false, List, [], ◌++◌, length, slice_get, All, Contains, Option, None, Some, Ok}
use Rattle.std.specs.Option.{unwrap_or}
use Rattle.std.specs.FinMap.{get}
use Rattle.xmp_base.specs.Device.{DeskState, Moved, Told}
use Rattle.xmp_base.specs.declared.file_span.FileSpan.{FileSpan}
use Rattle.jpeg_regions.specs.Jpeg.{Region, is_main}
use Rattle.jpeg_regions.specs.FromDesk.{near_end}
use Rattle.tiff_dirs.specs.Overlaps.{others_in}
use Rattle.xmp_files.specs.declared.kinds.Kind.{Kind}
use Rattle.xmp_files.specs.declared.held.Need.{Need}
use Rattle.xmp_files.specs.Faults.{packet_limit}
use Rattle.xmp_files.specs.Keeping.{Piece, Container, Text, Segments, Directories, Kept}
use Rattle.xmp_files.specs.Loading.{kind_of_file, IsContained}

-- the places of a payload that is over its limit
abbrev pub IsOverlong : Option Piece → ℕ → Type 0
IsOverlong None place = ⊥
IsOverlong (Some payload) place = (packet_limit < length payload.bytes) × (payload.at ≤ place) × (place < payload.at + length payload.bytes)

-- a place in one of these ranges
abbrev pub IsIn : List FileSpan → ℕ → Type 0
IsIn spans place = (r : FileSpan) × Contains spans r × (r.start ≤ place) × (place < r.end)

-- a place in the payload
abbrev pub IsInPayload : Option Piece → ℕ → Type 0
IsInPayload None place = ⊥
IsInPayload (Some payload) place = (payload.at ≤ place) × (place < payload.at + length payload.bytes)

-- The places that aren't read. Of a JPEG file they are those of each region after what tells its kind, which is at most 75 bytes of
-- its payload, and of the tail all after its marker. The main packet and the portions of its extended text alone are read. Of
-- a TIFF file they are those of a picture or of a packet over its limit that no other named range has: the header, the directories,
-- the values that stand apart from their entries, and a packet within its limit.
abbrev pub IsUnread : Container → Option Piece → List FileSpan → ℕ → Type 0
IsUnread Text payload portions place = IsOverlong payload place
IsUnread (Segments regions) payload portions place =
    (i : ℕ) × (r : Region) × (slice_get regions i ≡ Some r) × (is_main r.kind ≡ false) × (near_end r ≤ place) × (place < r.range.end) × (Contains portions r.payload → ⊥)
IsUnread (Directories size tiff) payload portions place =
    ((IsIn tiff.pictures place × (IsInPayload payload place → ⊥)) ⊎ IsOverlong payload place) × (IsIn (others_in tiff.layout 700 tiff.dirs []) place → ⊥)

-- a read covers no such place, but for the first 16 bytes of a file, which tell its kind
abbrev pub Spares : Kept → Moved → Type 0
Spares kept m = (place : ℕ) → 16 ≤ place → m.1 ≤ place → place < m.1 + m.2 → IsUnread kept.container kept.payload kept.portions place → ⊥

-- the container of FILE has no fault
abbrev pub HasContainer : Need → Option (List ℕ) → Kept → Type 0
HasContainer need file kept = (kind : Kind) × (kind_of_file file ≡ Ok kind) × IsContained need kind (unwrap_or file []) (Ok kept)

-- The reads of this name between two states spare these bytes, where its container has no fault.
abbrev pub Spared : Need → DeskState → DeskState → List ℕ → Type 0
Spared need s t name = Told s.files (λ files. Told s.reads (λ reads. (more : List Moved) × (t.reads ≡ Some (reads ++ more))
    × All (λ m. (kept : Kept) → HasContainer need (get files name) kept → m.0 ≡ name → Spares kept m) more))
