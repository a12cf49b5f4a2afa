-- The edits of a command, and what they make of a file's tree.
use Rattle.std.specs.Prelude.{ℕ, nat_lt, length, if◌then◌else◌, List, [], Option, Some, None, Result, Ok, Err}
use Rattle.std.specs.FinMap.{get}
use Rattle.xmp_base.specs.Device.{Files}
use Rattle.xmp_values.specs.Stops.{fault_at}
use Rattle.xmp_values.specs.declared.faults.Fault.{Fault}
use Rattle.xmp_values.specs.declared.faults.Part.{Part}
use Rattle.xmp_values.specs.declared.faults.Part.TheVariants.{Words, Script}
use Rattle.xmp_values.specs.declared.hints.Hint.{Hint}
use Rattle.xmp_values.specs.declared.rules.Rule.{Rule}
use Rattle.xmp_values.specs.declared.rules.Rule.TheVariants.{NoFile, ScriptLimit}
use Rattle.xmp_tree.specs.Parts.{Parts}
use Rattle.xmp_rdf.specs.declared.meanings.Meaning.{Meaning}
use Rattle.xmp_edit.specs.ScriptParts.{ScriptParts}
use Rattle.xmp_edit.specs.ScriptOf.{script_of, one_set_of}
use Rattle.xmp_edit.specs.Scripts.{edits_made}
use Rattle.xmp_files.specs.Stages.{followed}
use Rattle.xmp_files.specs.Planning.{Edited}

-- where edits stand: the one of `set` in the words, all others in the file SCRIPT
pub data Source : Type 0 where
  Given : (path value : List ℕ) → Source
  Lines : (script : List ℕ) → Source

-- SCRIPT isn't there
abbrev pub no_script : Fault
no_script = fault_at NoFile Script 0

-- the most bytes of SCRIPT: 2 ^ 20
abbrev pub script_limit : ℕ
script_limit = 1048576

-- SCRIPT is longer than the limit
abbrev pub over_script : ℕ → Fault
over_script size = record { rule = ScriptLimit; place = record { part = Script; at = 0 }; x = size; y = script_limit }

-- First SCRIPT is there and within its limit.
abbrev pub script_within : Option (List ℕ) → Result (List ℕ) Fault
script_within None = Err no_script
script_within (Some bytes) = if nat_lt script_limit (length bytes) then Err (over_script (length bytes)) else Ok bytes

abbrev pub text_of : Source → Files → Result (List ℕ) Fault
text_of (Given path value) files = Ok []
text_of (Lines script) files = script_within (get files script)

-- Then the script is read whole. Prefixes are looked up among the hints of the file too.
abbrev pub edits_from : Source → List ℕ → List Hint → Result ScriptParts (Rule × ℕ)
edits_from (Given path value) text hints = one_set_of hints path value
edits_from (Lines script) text hints = script_of hints text

-- in what the places of edits are counted: words from 0, or lines from 1
abbrev pub part_of : Source → Part
part_of (Given path value) = Words
part_of (Lines script) = Script

abbrev pub in_part : {X : Type 0} → Part → Result X (Rule × ℕ) → Result X Fault
in_part part (Ok x) = Ok x
in_part part (Err (rule, at)) = Err (fault_at rule part at)

-- Then the edits are made, up to the first that is refused.
abbrev pub with_tree : Parts → List Hint → Parts → Result Edited Fault
with_tree old hints new = Ok (record { old = old; new = new; hints = hints; digest = None })

abbrev pub made : Part → Parts → ScriptParts → Result Edited Fault
made part old script = followed (in_part part (edits_made script.edits old)) (with_tree old script.hints)

-- what the edits of a text make of what a file means
unfoldable pub edited_from : Source → List ℕ → Meaning → Result Edited Fault
edited_from source text meaning = followed (in_part (part_of source) (edits_from source text meaning.hints)) (made (part_of source) meaning.tree)

-- the same over files
abbrev pub edited_of : Source → Files → Meaning → Result Edited Fault
edited_of source files meaning = followed (text_of source files) (λ text. edited_from source text meaning)
