-- The refusals of edits, whatever the devices tell.
use Rattle.std.specs.Prelude.{◌≡◌, ◌⊎◌, ℕ, ◌<◌, ◌≤◌, Bool, List, [], length, Result, Err}
use Rattle.xmp_base.specs.Device.{DeskState, len_of}
use Rattle.xmp_values.specs.declared.faults.Fault.{Fault}
use Rattle.xmp_files.specs.declared.opening.Opened.{Opened}
use Rattle.xmp_files.specs.Stages.{Followed}
use Rattle.xmp_files.specs.Keeping.{Kept}
use Rattle.xmp_files.specs.Planning.{Edited}
use Rattle.xmp_files.specs.Plans.{IsPlanned}
use Rattle.xmp_cli.specs.Edits.{Source, Given, Lines, no_script, script_limit, over_script, edited_from}

-- the refusals of SCRIPT's file, with its length
abbrev pub IsTextRefusal : Source → DeskState → Fault → Type 0
IsTextRefusal (Given path value) t fault = ⊥
IsTextRefusal (Lines script) t fault = (fault ≡ no_script) ⊎ ((script_limit < len_of t script) × (fault ≡ over_script (len_of t script)))

-- a text that may be that of SCRIPT; `set` has none
abbrev pub IsTextOf : Source → DeskState → List ℕ → Type 0
IsTextOf (Given path value) t text = text ≡ []
IsTextOf (Lines script) t text = (length text ≡ len_of t script) × (length text ≤ script_limit)

-- the edits are refused, or the plan is
abbrev pub IsStopOf : Bool → Result Edited Fault → Kept → Opened → Fault → Type 0
IsStopOf patch step kept opened fault = Followed step (IsPlanned kept opened.joined patch) (Err fault)

-- the refusals of edits and of a plan: of SCRIPT's file, or those that some text of SCRIPT has for some file
pub record IsPlanRefusal (source : Source) (patch : Bool) (t : DeskState) (fault : Fault) : Type 0 where
  pub text : List ℕ
  pub of_source : IsTextOf source t text
  pub kept : Kept
  pub opened : Opened
  pub is : IsStopOf patch (edited_from source text opened.meaning) kept opened fault

abbrev pub IsEditRefusal : Source → Bool → DeskState → Fault → Type 0
IsEditRefusal source patch t fault = IsTextRefusal source t fault ⊎ IsPlanRefusal source patch t fault
