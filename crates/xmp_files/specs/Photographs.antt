-- From a JPEG file to what is kept of it (ISO 10918-1, annex B; XMP Specification Part 3, sections 1.1.3 and 1.1.3.1).
use Rattle.std.specs.Prelude.{◌≡◌, ℕ, ◌+◌, ◌-◌, min, List, [], ◌∷◌, length, take, drop, map, slice_get, Option, None, Some, Ok, Err}
use Rattle.std.specs.Option.{option_map}
use Rattle.std.specs.declared.result.Result.{Result}
use Rattle.xmp_base.specs.declared.file_span.FileSpan.{FileSpan}
use Rattle.xmp_values.specs.Stops.{fault_at}
use Rattle.xmp_values.specs.declared.faults.Fault.{Fault}
use Rattle.xmp_values.specs.declared.faults.Part.TheVariants.{File}
use Rattle.xmp_values.specs.declared.rules.Rule.{Rule}
use Rattle.jpeg_regions.specs.Jpeg.{Region, Jpeg, FirstFault, mains, portion_payloads, span}
use Rattle.jpeg_extended.specs.Tiling.{IsTooLong, IsGap}
use Rattle.jpeg_extended.specs.Portions.{Portion, extent}
use Rattle.jpeg_extended.specs.Joined.{Joined}
use Rattle.jpeg_extended.specs.FromDesk.{named_at, portions_at}
use Rattle.xmp_files.specs.declared.held.Need.{Need}
use Rattle.xmp_files.specs.declared.held.Extended.{Extended}
use Rattle.xmp_files.specs.declared.held.Extended.TheVariants as extended
use Rattle.xmp_files.specs.Keeping.{Piece, Kept, photograph}
use Rattle.xmp_files.specs.Meanings.{IsNote}

-- the bytes of a range of a file, with their place
abbrev pub piece_at : List ℕ → FileSpan → Piece
piece_at file range = record { at = range.start; bytes = take (range.end - range.start) (drop range.start file) }

-- the payload of the main region
abbrev pub main_payload : List Region → Option FileSpan
main_payload regions = option_map (λ r. r.payload) (slice_get (mains regions) 0)

-- the packet in a payload: what stands after its signature of 29 bytes
abbrev pub packet_range : FileSpan → FileSpan
packet_range payload = span (min (payload.start + 29) payload.end) payload.end

abbrev pub main_packet : List ℕ → List Region → Option Piece
main_packet file regions = option_map (λ payload. piece_at file (packet_range payload)) (main_payload regions)

-- The name of the extended text is the note of the main packet. A file without a portion has no such text, and its packet isn't read
-- for it.
abbrev pub IsName : List FileSpan → Option Piece → Option (List ℕ) → Type 0
IsName [] packet note = note ≡ None
IsName (payload ∷ payloads) packet note = IsNote packet note

-- where the portions of the text stand that the note names
abbrev pub named_portions : List ℕ → Option (List ℕ) → List Region → List FileSpan
named_portions file None regions = []
named_portions file (Some name) regions = named_at file name (portion_payloads regions)

-- these portions
abbrev pub portions_in : List ℕ → Option (List ℕ) → List FileSpan → List Portion
portions_in file None payloads = []
portions_in file (Some name) payloads = portions_at file name payloads

-- what portions give: their text, or why they don't join; nothing without a portion
abbrev pub IsExtended : List Portion → Option Extended → Type 0
IsExtended portions None = portions ≡ []
IsExtended portions (Some (extended.Joined text)) = Joined portions text
IsExtended portions (Some (extended.TooLong full)) = IsTooLong (map extent portions) full
IsExtended portions (Some (extended.Gap place)) = IsGap (map extent portions) place

-- what is kept of a file that can be cut: its regions, the main packet, and the extended text that the packet's note names
pub record IsPhotograph (need : Need) (file : List ℕ) (kept : Kept) : Type 0 where
  pub regions : List Region
  pub jpeg : Jpeg file regions
  pub note : Option (List ℕ)
  pub noted : IsName (portion_payloads regions) (main_packet file regions) note
  pub extended : Option Extended
  pub joins : IsExtended (portions_in file note (named_portions file note regions)) extended
  pub is : kept ≡ photograph need (length file) regions (main_packet file regions) (named_portions file note regions) extended

-- what is kept of a file that can be cut, or its first fault
abbrev pub IsCut : Need → List ℕ → Result Kept Fault → Type 0
IsCut need file (Ok kept) = IsPhotograph need file kept
IsCut need file (Err fault) = (rule : Rule) × (place : ℕ) × FirstFault file rule place × (fault ≡ fault_at rule File place)
