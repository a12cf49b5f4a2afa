-- What a step of a command that edits gives, beside the definitions. Memory may always be wanted, and a device may fail.
use Rattle.std.specs.Prelude.{◌≡◌, ◌≢◌, ◌⊎◌, ℕ, Bool, true, false, List, IfOk, Option, Some, None, Result, Ok, Err}
use Rattle.xmp_base.specs.Device.{DeskState, SinkState, Told, Rose, OthersKeep}
use Rattle.xmp_base.specs.declared.device.Failed.{Failed}
use Rattle.xmp_base.specs.Whole.{ReadSome}
use Rattle.xmp_values.specs.Stops.{fault_of, Answers, Gives}
use Rattle.xmp_values.specs.declared.faults.Fault.{Fault}
use Rattle.xmp_values.specs.declared.rules.Rule.TheVariants.{NoFile}
use Rattle.xmp_values.specs.declared.stops.FaultStop.{FaultStop}
use Rattle.xmp_values.specs.declared.stops.FileStop.{FileStop}
use Rattle.xmp_values.specs.declared.stops.FileStop.TheVariants as stop
use Rattle.xmp_files.specs.declared.opening.Opened.{Opened}
use Rattle.xmp_files.specs.Faults.{no_file}
use Rattle.xmp_files.specs.Keeping.{Kept}
use Rattle.xmp_files.specs.Planning.{Edited, Plan}
use Rattle.xmp_files.specs.Plans.{IsPlanned, MayPlan}
use Rattle.xmp_files.specs.Planneds.{PlannedFile}
use Rattle.xmp_files.specs.Emitting.{EmitCall}
use Rattle.xmp_files.specs.Patching.{FileIsPatched, PatchCall}
use Rattle.xmp_cli.specs.Answer.{Change, put_out, exchange_in}
use Rattle.xmp_cli.specs.Commands.{Command, Set as SetOf, Apply as ApplyOf, Patch as PatchOf}
use Rattle.xmp_cli.specs.Edits.{Source, Given, Lines, text_of, edited_from, edited_of}
use Rattle.xmp_cli.specs.Reports.{report}
use Rattle.xmp_cli.specs.Sending.{SendAll}
use Rattle.xmp_cli.specs.EditRefusals.{IsTextRefusal, IsTextOf, IsStopOf, IsEditRefusal}
use Rattle.xmp_cli.specs.declared.edits.Edits.{Edits}
use Rattle.xmp_cli.specs.declared.edits.Edits.TheVariants.{Set, Apply, Patch}
use Rattle.xmp_cli.specs.declared.status.Status.{Status}
use Rattle.xmp_cli.specs.declared.status.Status.TheVariants.{Refused, Device, Memory}

-- where the edits of a value of the code stand, and the command that it makes
abbrev pub source : Edits → Source
source (Set out path value) = Given path.now value.now
source (Apply out script) = Lines script.now
source (Patch script) = Lines script.now

abbrev pub command_of : List ℕ → Edits → Command
command_of file (Set out path value) = SetOf file out.now path.now value.now
command_of file (Apply out script) = ApplyOf file out.now script.now
command_of file (Patch script) = PatchOf file script.now

-- whether FILE may be changed inside its packet alone
abbrev pub is_inside : Edits → Bool
is_inside (Set out path value) = false
is_inside (Apply out script) = false
is_inside (Patch script) = true

-- the change that is made of a plan
abbrev pub change_of : List ℕ → Edits → List ℕ → Plan → Option Change
change_of file (Set out path value) = put_out out.now
change_of file (Apply out script) = put_out out.now
change_of file (Patch script) = exchange_in file

-- FILE isn't SCRIPT
abbrev pub IsApart : List ℕ → Source → Type 0
IsApart file (Given path value) = Unit {0}
IsApart file (Lines script) = file ≢ script

-- FILE isn't OUT
abbrev pub IsElsewhere : List ℕ → Edits → Type 0
IsElsewhere file (Set out path value) = file ≢ out.now
IsElsewhere file (Apply out script) = file ≢ out.now
IsElsewhere file (Patch script) = Unit {0}

-- the fault that a stop tells; none where memory or a device failed
abbrev pub told_by : FileStop → Option Fault
told_by stop.Absent = Some no_file
told_by (stop.Fault fault) = Some fault
told_by stop.Device = None
told_by stop.Memory = None

-- how a run ends where it stops
abbrev pub ended_by : FileStop → Status
ended_by stop.Absent = Refused no_file
ended_by (stop.Fault fault) = Refused fault
ended_by stop.Device = Device
ended_by stop.Memory = Memory

-- SCRIPT alone was read, and no file changed
abbrev pub ReadsSource : Source → DeskState → DeskState → Type 0
ReadsSource (Given path value) s t = t ≡ s
ReadsSource (Lines script) s t = ReadSome s t script × OthersKeep s.lens t.lens script

-- what every stop says of the devices
pub record Stopped {X : Type 0} (s t : DeskState) (result : Result X FileStop) : Type 0 where
  pub there : result ≡ Err stop.Absent → ⊥
  pub missed : (fault : Fault) → result ≡ Err (stop.Fault fault) → fault.rule ≡ NoFile → Rose s.misses t.misses
  pub device : result ≡ Err stop.Device → Rose s.faults t.faults

-- the text of SCRIPT was read
pub record TextCall (source : Source) (s t : DeskState) (result : Result (List ℕ) FileStop) : Type 0 where
  pub reads : ReadsSource source s t
  pub told : Told s.files (λ files. Gives told_by result (text_of source files))
  pub stopped : Stopped s t result
  pub refuses : (fault : Fault) → result ≡ Err (stop.Fault fault) → IsTextRefusal source t fault
  pub text : IfOk result (IsTextOf source t)

-- A plan for an opened file, and the edit that it is for, which renews no digest. The texts of a tree that changes are ones that are
-- read back.
pub record IsPlanOf (patch : Bool) (step : Result Edited Fault) (kept : Kept) (opened : Opened) (plan : Plan) : Type 0 where
  pub edited : Edited
  pub is : step ≡ Ok edited
  pub scripted : edited.digest ≡ None
  pub planned : IsPlanned kept opened.joined patch edited (Ok plan)
  pub written : edited.new ≢ edited.old → MayPlan edited.new edited.hints

-- what the edits of a text make of an opened file
abbrev pub FromText : Source → Bool → List ℕ → Kept → Opened → Result PlannedFile FaultStop → Type 0
FromText source patch text kept opened result =
    Answers fault_of result (λ p. IsPlanOf patch (edited_from source text opened.meaning) kept opened p.plan × (p.size ≡ kept.size)) (IsStopOf patch (edited_from source text opened.meaning) kept opened)

-- The plan for an opened file after the edits of a source.
pub record PlanCall (source : Source) (patch : Bool) (s t : DeskState) (kept : Kept) (opened : Opened) (result : Result PlannedFile FileStop) : Type 0 where
  pub reads : ReadsSource source s t
  pub told : Told s.files (λ files. Answers told_by result (λ p. IsPlanOf patch (edited_of source files opened.meaning) kept opened p.plan) (IsStopOf patch (edited_of source files opened.meaning) kept opened))
  pub stopped : Stopped s t result
  pub refuses : (fault : Fault) → result ≡ Err (stop.Fault fault) → IsEditRefusal source patch t fault
  -- the plan is one for the file, whatever the desk tells
  pub planned : IfOk result (λ p. (step : Result Edited Fault) × IsPlanOf patch step kept opened p.plan × (p.size ≡ kept.size))

-- a plan for an edit that renews no digest
abbrev pub IsScriptPlan : Kept → Bool → Plan → Type 0
IsScriptPlan kept patch plan = (joined : Bool) × (edited : Edited) × (edited.digest ≡ None) × IsPlanned kept joined patch edited (Ok plan)

-- OUT was written, or the packet exchanged inside FILE, which is then read as the old tree, as the new one, or is refused
abbrev pub Placed : DeskState → DeskState → Kept → Plan → List ℕ → Edits → Result (Unit {0}) Failed → Type 0
Placed s t kept plan file (Set out path value) result = EmitCall s t plan kept.size file out.now result
Placed s t kept plan file (Apply out script) result = EmitCall s t plan kept.size file out.now result
Placed s t kept plan file (Patch script) result = PatchCall s t file kept.payload plan result × FileIsPatched

-- The change of a plan was made, and then its report sent; or the first of both failed.
abbrev pub Finished : (s t : DeskState) (o p : SinkState) (kept : Kept) (planned : PlannedFile) (file : List ℕ) (edits : Edits) → Result (Unit {0}) Failed → Type 0
Finished s t o p kept planned file edits (Ok unit) =
    Placed s t kept planned.plan file edits (Ok unit) × SendAll o p (report planned.size planned.plan) (Ok unit)
Finished s t o p kept planned file edits (Err failed) =
    (Placed s t kept planned.plan file edits (Err failed) × (p ≡ o)) ⊎ (Placed s t kept planned.plan file edits (Ok tt) × SendAll o p (report planned.size planned.plan) (Err failed))
