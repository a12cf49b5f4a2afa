-- What is true of the file that a relocation makes, whatever the old one is.
use Rattle.std.specs.Prelude.{◌≡◌, ℕ, ◌+◌, ◌≤◌, List, [], ◌∷◌, length, map, flat_map, sum_by, if◌then◌else◌, Option, None, Some}
use Rattle.std.specs.List.{list_any}
use Rattle.xmp_base.specs.declared.file_span.FileSpan.{FileSpan}
use Rattle.jpeg_regions.specs.Jpeg.{Region, Jpeg, Cuts, mains, placed, portion_payloads, text}
use Rattle.jpeg_extended.specs.Tiling.{limit}
use Rattle.jpeg_extended.specs.Written.{name_text, portions_of}
use Rattle.jpeg_extended.specs.FromDesk.{payload_at, named_at, portions_at}
use Rattle.jpeg_relocation.specs.Relocation.{part_of, kept, before, after, relocated_file}
use Rattle.jpeg_relocation.specs.Runs.{runs}
use Rattle.jpeg_relocation.specs.Pictures.{is_index, size_of, pictures_len}
use Rattle.jpeg_relocation.specs.NewSegments.{main_limit, main_payload_text, new_segments, relocated_list}

-- what segments hold: a packet within its limit, and an extended text within its own
abbrev pub IsText : Option (List ℕ) → Type 0
IsText None = Unit {0}
IsText (Some extended) = length extended ≤ limit

abbrev pub new_file : List ℕ → List FileSpan → List Region → List ℕ → Option (List ℕ) → List ℕ
new_file file joined regions packet extended = relocated_file file joined regions (flat_map text (new_segments packet extended))

abbrev pub new_list : List FileSpan → List Region → List ℕ → Option (List ℕ) → List Region
new_list joined regions packet extended = relocated_list joined regions (new_segments packet extended)

-- where the new segments begin
abbrev pub new_place : List FileSpan → List Region → ℕ
new_place joined regions = 2 + sum_by size_of (before joined regions)

-- where the payloads of the new portions stand
abbrev pub new_portions : List FileSpan → List Region → List ℕ → Option (List ℕ) → List FileSpan
new_portions joined regions packet extended = portion_payloads (placed (new_place joined regions) (new_segments packet extended))

-- The runs have the bytes of their regions.
abbrev pub RunsArePieces : Type 0
RunsArePieces =
    (file : List ℕ) (joined : List FileSpan) (regions : List Region) → Cuts file regions
    → (flat_map (payload_at file) (runs (before joined regions)) ≡ flat_map (part_of file) (before joined regions))
    × (flat_map (payload_at file) (runs (after joined regions)) ≡ flat_map (part_of file) (after joined regions))

-- The new file is a JPEG file, of the stated regions.
abbrev pub NewFileIsCut : Type 0
NewFileIsCut =
    (file : List ℕ) (joined : List FileSpan) (regions : List Region) (packet : List ℕ) (extended : Option (List ℕ)) → Jpeg file regions → length packet ≤ main_limit → IsText extended
    → Jpeg (new_file file joined regions packet extended) (new_list joined regions packet extended)

-- Its one main region holds the packet after the signature.
abbrev pub MainIsPacket : Type 0
MainIsPacket =
    (file : List ℕ) (joined : List FileSpan) (regions : List Region) (packet : List ℕ) (extended : Option (List ℕ)) → Jpeg file regions → length packet ≤ main_limit → IsText extended
    → map (λ r. payload_at (new_file file joined regions packet extended) r.payload) (mains (new_list joined regions packet extended)) ≡ main_payload_text packet ∷ []

-- All but the main packet and the portions that were joined keeps its bytes and its order.
abbrev pub KeptIsSame : Type 0
KeptIsSame =
    (file : List ℕ) (joined : List FileSpan) (regions : List Region) (packet : List ℕ) (extended : Option (List ℕ)) → Jpeg file regions → length packet ≤ main_limit → IsText extended
    → map (part_of (new_file file joined regions packet extended)) (kept (new_portions joined regions packet extended) (new_list joined regions packet extended))
    ≡ map (part_of file) (kept joined regions)

-- no portion that stays bears this name
abbrev pub NoStray : List ℕ → List FileSpan → List Region → List ℕ → Type 0
NoStray file joined regions name = named_at file name (portion_payloads (kept joined regions)) ≡ []

-- Where no portion that stays bears the name of the new extended text, those that are found by it are the new ones, and are portions of
-- the text.
abbrev pub PortionsAreNew : Type 0
PortionsAreNew =
    (file : List ℕ) (joined : List FileSpan) (regions : List Region) (packet extended : List ℕ) → Jpeg file regions → length packet ≤ main_limit → length extended ≤ limit
    → NoStray file joined regions (name_text extended)
    → (named_at (new_file file joined regions packet (Some extended)) (name_text extended) (portion_payloads (new_list joined regions packet (Some extended)))
    ≡ new_portions joined regions packet (Some extended))
    × (portions_at (new_file file joined regions packet (Some extended)) (name_text extended) (new_portions joined regions packet (Some extended)) ≡ portions_of extended)

-- The new file's length, and what stands after its first index of a multi-picture file.
abbrev pub NewLengths : Type 0
NewLengths =
    (file : List ℕ) (joined : List FileSpan) (regions : List Region) (packet : List ℕ) (extended : Option (List ℕ)) → Cuts file regions → length packet ≤ main_limit
    → IsText extended
    → (length (new_file file joined regions packet extended) ≡ 2 + sum_by size_of (kept joined regions) + length (flat_map text (new_segments packet extended)))
    × (pictures_len (new_list joined regions packet extended)
    ≡ pictures_len (kept joined regions)
    + (if list_any (λ r. is_index r.kind) (before joined regions) then length (flat_map text (new_segments packet extended)) else 0))
