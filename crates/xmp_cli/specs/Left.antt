-- What a run leaves of the files where it doesn't end well, and where it writes.
use Rattle.std.specs.Prelude.{◌≡◌, ◌⊎◌, ℕ, ◌+◌, List, [], ◌∷◌, length, Option, None, Some}
use Rattle.std.specs.FinMap.{get}
use Rattle.xmp_base.specs.Device.{DeskState, SinkState, Files, Rose, SameFiles, bytes_of}
use Rattle.xmp_base.specs.Windows.{MovesInside, PartOf}
use Rattle.packet_exchange.specs.Closing.{ExchangeWrites}
use Rattle.xmp_files.specs.Keeping.{Piece, Kept}
use Rattle.xmp_files.specs.Opening.{HoldsTree, IsWhole}
use Rattle.xmp_files.specs.Patching.{new_payload}
use Rattle.xmp_files.specs.Planning.{Edited, Plan, Agree, Frame}
use Rattle.xmp_files.specs.Plans.{Apart, NoStray}
use Rattle.xmp_cli.specs.Commands.{Command, Patch}
use Rattle.xmp_cli.specs.Answer.{Change, puts, patches, Outcome, Plans, changed}
use Rattle.xmp_cli.specs.Sending.{SentSome}

-- the most bytes of a piece that is written
abbrev pub most_piece : ℕ
most_piece = 65536

-- What a failed device leaves of a file that is put in: it is as it was; or its creation failed, or nothing was written yet; or
-- it holds a part of the new bytes.
abbrev pub LeftFile : DeskState → DeskState → Option (List ℕ) → Option (List ℕ) → List ℕ → Type 0
LeftFile s t before now whole = (now ≡ before) ⊎ (t.wrote ≡ s.wrote) ⊎ ((part : List ℕ) × (now ≡ Some part) × PartOf part whole most_piece)

-- the same by the change; what is left of a file that is patched is said below
abbrev pub Left : Files → Option Change → DeskState → DeskState → Type 0
Left files None s t = t.files ≡ Some files
Left files (Some (puts name bytes)) s t = (now : Files) × (t.files ≡ Some now) × LeftFile s t (get files name) (get now name) bytes
Left files (Some (patches name at bytes)) s t = Unit {0}

-- After a failure of a device some first bytes of the text were sent. The text comes after the change: nothing was sent and the
-- desk failed, or the change is whole.
pub record AfterFailure (files : Files) (outcome : Outcome) (s t : DeskState) (o p : SinkState) : Type 0 where
  pub part : SentSome o p outcome.text
  pub left : Left files outcome.change s t
  pub order : ((p.sent ≡ o.sent) × Rose s.faults t.faults) ⊎ (t.files ≡ Some (changed files outcome.change))

-- FILE was patched, or is being patched, by a plan that exchanges its packet: it differs in its payload alone, all that was written lies
-- there, in the first byte or from the first difference on, and it is read as the old tree or as the new one, or it is refused.
pub record InPatch (command : Command) (file : List ℕ) (files now : Files) (s t : DeskState) : Type 0 where
  pub kept : Kept
  pub edited : Edited
  pub plan : Plan
  pub plans : Plans command files kept edited plan
  pub payload : Piece
  pub of_kept : kept.payload ≡ Some payload
  pub new : List ℕ
  pub exchanges : new_payload plan ≡ Some new
  pub wrote : MovesInside file payload.at (payload.at + length payload.bytes) s.wrote t.wrote
  pub writes : ExchangeWrites file payload.at payload.bytes new s.wrote t.wrote
  -- a payload that stays isn't written
  pub idle : payload.bytes ≡ new → t.wrote ≡ s.wrote
  pub agrees : Agree (bytes_of files file) (bytes_of now file) (payload ∷ [])
  pub whole : IsWhole edited.old edited.new (get now file)

-- `patch` leaves FILE so however it ends, or as it was
abbrev pub Patched : Option Command → Files → DeskState → DeskState → Type 0
Patched (Some (Patch file script)) files s t =
    SameFiles s t ⊎ ((now : Files) × (t.files ≡ Some now) × InPatch (Patch file script) file files now s t)
Patched other files s t = Unit {0}

-- What a command that edits has written, where it is done: the file is read as the new tree, under the two conditions on the old file, and
-- keeps what its plan says.
pub record Written (old new : Option (List ℕ)) (kept : Kept) (edited : Edited) (plan : Plan) : Type 0 where
  pub reads_back : Apart kept.container plan → ((before : List ℕ) → old ≡ Some before → NoStray before kept.container kept.portions edited plan) → HoldsTree new edited.new
  pub frame : (before after : List ℕ) → old ≡ Some before → new ≡ Some after → Frame kept plan before after
