-- How a plan is kept, and what `plan` returned beside the definition.
use Rattle.std.specs.Prelude.{◌≡◌, ℕ, Bool, List, [], ◌∷◌, Option, None, Some, Ok, Err}
use Rattle.std.specs.declared.result.Result.{Result}
use Rattle.xmp_values.specs.declared.stops.FaultStop.{FaultStop}
use Rattle.xmp_values.specs.Stops.{fault_of, Answers}
use Rattle.xmp_files.specs.declared.plans.Exchange.{Exchange}
use Rattle.xmp_files.specs.declared.plans.Exchange.TheVariants.{Nothing, Inside, Anew}
use Rattle.xmp_files.specs.declared.plans.Outcome.{Outcome}
use Rattle.xmp_files.specs.declared.plans.Outcome.TheVariants as outcomes
use Rattle.xmp_files.specs.Keeping.{Piece, Container, Kept}
use Rattle.xmp_base.specs.declared.file_span.FileSpan.{FileSpan}
use Rattle.xmp_files.specs.declared.parts.NewFile.{NewFile}
use Rattle.xmp_files.specs.NewFiles.{parts_at, NewLies}
use Rattle.tiff_dirs.specs.Tiff.{Tiff}
use Rattle.xmp_files.specs.Planning.{Edited, Part, Plan, Same, InPlace, Relocated}
use Rattle.jpeg_regions.specs.Jpeg.{Region}
use Rattle.jpeg_extended.specs.Written.{name_text, portion_at, segment_text}
use Rattle.xmp_values.specs.declared.hints.Hint.{Hint}
use Rattle.xmp_tree.specs.Parts.{Parts}
use Rattle.xmp_files.specs.Plans.{IsPlanned, IsMoved, IsDivided, put_among, put_last, within_out}

abbrev pub plan_of : Exchange → Plan
plan_of Nothing = Same
plan_of (Inside at bytes) = InPlace (record { at = at; bytes = bytes } ∷ [])
plan_of (Anew new) = Relocated (parts_at new.bytes new.parts.items)

abbrev pub outcome_of : Plan → Outcome
outcome_of Same = outcomes.Same
outcome_of (InPlace pieces) = outcomes.InPlace
outcome_of (Relocated parts) = outcomes.Relocated

-- a new file is made of ranges of the old one of this length, and of its own bytes
abbrev pub ExchangeLies : ℕ → Exchange → Type 0
ExchangeLies size Nothing = Unit {0}
ExchangeLies size (Inside at bytes) = Unit {0}
ExchangeLies size (Anew new) = NewLies size new

-- a plan, and the length of the old file
pub record PlannedFile : Type 0 where
  pub plan : Plan
  pub size : ℕ

-- the answer is a step of the file and the edit; want of memory is free
abbrev pub PlanAnswer : Kept → Bool → Bool → Edited → Result PlannedFile FaultStop → Type 0
PlanAnswer kept joined patch e result =
    Answers fault_of result (λ planned. IsPlanned kept joined patch e (Ok planned.plan) × (planned.size ≡ kept.size)) (λ fault. IsPlanned kept joined patch e (Err fault))

-- what a changed tree makes of a file is a step
abbrev pub MoveAnswer : Option Piece → Container → List FileSpan → Bool → Bool → Edited → Result Exchange FaultStop → Type 0
MoveAnswer payload container portions joined patch e result =
    Answers fault_of result (λ exchange. IsMoved payload container portions joined patch e (Ok (plan_of exchange))) (λ fault. IsMoved payload container portions joined patch e (Err fault))

-- the segment of portion k, from 0, of an extended text
unfoldable pub portion_segment : List ℕ → ℕ → List ℕ
portion_segment extended k = segment_text (name_text extended) (portion_at extended k)

-- a tree that is too long for a segment was divided as the definition says; want of memory is free
abbrev pub DivideAnswer : List Region → List FileSpan → Parts → List Hint → Result Exchange FaultStop → Type 0
DivideAnswer regions joined t hints result =
    Answers fault_of result (λ exchange. IsDivided regions joined t hints (Ok (plan_of exchange))) (λ fault. IsDivided regions joined t hints (Err fault))

-- new bytes among the regions of a JPEG file are what the definition says; want of memory is free
abbrev pub AmongAnswer : List Region → List FileSpan → List ℕ → Result Exchange FaultStop → Type 0
AmongAnswer regions joined new result =
    Answers fault_of result (λ exchange. Ok (plan_of exchange) ≡ put_among regions joined new) (λ fault. Err fault ≡ put_among regions joined new)

-- parts are a new file, or it is too long
abbrev pub PartsAnswer : List Part → Result Exchange FaultStop → Type 0
PartsAnswer parts result =
    Answers fault_of result (λ exchange. Ok (plan_of exchange) ≡ within_out parts) (λ fault. Err fault ≡ within_out parts)

-- a packet at the end of a TIFF file is what the definition says; want of memory is free
abbrev pub LastAnswer : ℕ → Tiff → List ℕ → Result Exchange FaultStop → Type 0
LastAnswer size tiff packet result =
    Answers fault_of result (λ exchange. Ok (plan_of exchange) ≡ put_last size tiff packet) (λ fault. Err fault ≡ put_last size tiff packet)

-- the bytes of a payload, none without one
abbrev pub bytes_in : Option Piece → List ℕ
bytes_in None = []
bytes_in (Some payload) = payload.bytes

-- the packet of a plan that writes no new file, of which there is at most one piece
abbrev pub new_packet : Option Piece → Plan → List ℕ
new_packet payload Same = bytes_in payload
new_packet payload (InPlace []) = bytes_in payload
new_packet payload (InPlace (p ∷ ps)) = p.bytes
new_packet payload (Relocated parts) = bytes_in payload

-- a plan that writes no new file
abbrev pub IsNear : Plan → Type 0
IsNear Same = Unit {0}
IsNear (InPlace pieces) = Unit {0}
IsNear (Relocated parts) = ⊥

-- what is kept of a new file; none where none is written
abbrev pub IsNewFile : ℕ → Plan → Option NewFile → Type 0
IsNewFile size plan None = IsNear plan
IsNewFile size plan (Some new) = (plan ≡ Relocated (parts_at new.bytes new.parts.items)) × NewLies size new
