-- What writing the new file does to a desk.
use Rattle.std.specs.Prelude.{◌≡◌, ◌⊎◌, ℕ, ◌+◌, Bool, List, length, MatchResult, Option, Some, Ok, Err}
use Rattle.std.specs.declared.result.Result.{Result}
use Rattle.std.specs.FinMap.{get}
use Rattle.xmp_base.specs.Device.{DeskState, Files, Told, Rose, NotFewer, OthersKeep, bytes_of}
use Rattle.xmp_base.specs.Whole.{ReadsOf}
use Rattle.xmp_base.specs.Windows.{MovesInside, PartOf, Grows}
use Rattle.xmp_base.specs.declared.device.Failed.{Failed}
use Rattle.xmp_files.specs.Keeping.{Piece, Kept}
use Rattle.xmp_files.specs.Planning.{Edited, Part, part_bytes, part_len, parts_bytes, parts_len, Plan, planned_file}
use Rattle.xmp_files.specs.Plans.{IsPlanned, planned_len, place_of, room_of}
use Rattle.xmp_files.specs.Planneds.{new_packet}
use Rattle.xmp_files.specs.NewFiles.{parts_at, spliced_parts}

-- the most bytes of a piece that is written
abbrev pub most_piece : ℕ
most_piece = 65536

-- a plan for what is kept of a file, of some edit
abbrev pub IsPlanFor : Kept → Plan → Type 0
IsPlanFor kept plan = (joined patch : Bool) × (edited : Edited) × IsPlanned kept joined patch edited (Ok plan)

-- The file that is written: whole, and after a failure as it was created or not, or a part of it.
abbrev pub EmittedFile : Result (Unit {0}) Failed → DeskState → DeskState → Option (List ℕ) → List ℕ → Type 0
EmittedFile (Ok _) s t now whole = now ≡ Some whole
EmittedFile (Err _) s t now whole = (t.wrote ≡ s.wrote) ⊎ ((part : List ℕ) × (now ≡ Some part) × PartOf part whole most_piece)

-- bytes were put at the end of a file in pieces
pub record PiecesCall (s t : DeskState) (name bytes : List ℕ) (result : Result (Unit {0}) Failed) : Type 0 where
  pub reads : t.reads ≡ s.reads
  pub grows : Grows s t name (λ _. bytes) (length bytes) most_piece result

-- a part of a new file was put at the end of that
pub record PartCall (s t : DeskState) (from to : List ℕ) (part : Part) (result : Result (Unit {0}) Failed) : Type 0 where
  pub reads : ReadsOf from s.reads t.reads
  pub grows : Grows s t to (λ files. part_bytes (bytes_of files from) part) (part_len part) most_piece result

-- of a plan that writes no new file: the old one with its payload exchanged
abbrev pub near_parts : Option Piece → Plan → ℕ → List Part
near_parts payload plan size =
    let packet = new_packet payload plan in parts_at packet (spliced_parts (place_of payload) (length packet) (place_of payload + room_of payload) size)

-- parts of a new file were put at its end
pub record PartsCall (s t : DeskState) (from to : List ℕ) (parts : List Part) (result : Result (Unit {0}) Failed) : Type 0 where
  pub reads : ReadsOf from s.reads t.reads
  pub grows : Grows s t to (λ files. parts_bytes (bytes_of files from) parts) (parts_len parts) most_piece result

-- The clauses of `emit`, from the desk's state s to t, of a plan for a file of this length.
pub record EmitCall (s t : DeskState) (plan : Plan) (size : ℕ) (from to : List ℕ) (result : Result (Unit {0}) Failed) : Type 0 where
  pub counts : NotFewer s t
  pub reads : ReadsOf from s.reads t.reads
  -- nothing is written past the new file's end
  pub wrote : MovesInside to 0 (planned_len size plan) s.wrote t.wrote
  pub others : OthersKeep s.lens t.lens to
  pub told : Told s.files (λ files. (now : Files) × (t.files ≡ Some now) × OthersKeep files now to
      × EmittedFile result s t (get now to) (planned_file (bytes_of files from) plan))
  pub failed : MatchResult result (λ _. Unit {0}) (λ _. Rose s.faults t.faults)
