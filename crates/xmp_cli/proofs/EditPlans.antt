-- The plan for an opened file, from the text of SCRIPT, the script, the edits and what `plan` gave.
use Rattle.std.proofs.Common.{◌≡◌, ◌≢◌, ◌∙◌, ℕ, Bool, List, Some, None, Ok, Err, refl, sym, ap, subst, inl, inr}
use Rattle.std.specs.Prelude.{IfOk}
use Rattle.std.specs.declared.result.Result.{Result}
use Rattle.xmp_base.specs.Device.{DeskState, Files, Told}
use Rattle.xmp_values.specs.Stops.{fault_at, place_of, stop_in, file_stop, Answers, Gives}
use Rattle.xmp_values.specs.declared.faults.Fault.{Fault}
use Rattle.xmp_values.specs.declared.faults.Part.{Part}
use Rattle.xmp_values.specs.declared.hints.Hint.{Hint}
use Rattle.xmp_values.specs.declared.rules.Rule.{Rule}
use Rattle.xmp_values.specs.declared.rules.Rule.TheVariants.{NoFile}
use Rattle.xmp_values.specs.declared.stops.PlaceStop.{PlaceStop}
use Rattle.xmp_values.specs.declared.stops.PlaceStop.TheVariants as places
use Rattle.xmp_values.specs.declared.stops.FaultStop.{FaultStop}
use Rattle.xmp_values.specs.declared.stops.FaultStop.TheVariants as faults
use Rattle.xmp_values.specs.declared.stops.FileStop.{FileStop}
use Rattle.xmp_values.specs.declared.stops.FileStop.TheVariants as stop
use Rattle.xmp_tree.specs.Parts.{Parts}
use Rattle.xmp_rdf.specs.declared.meanings.Meaning.{Meaning}
use Rattle.xmp_edit.specs.ScriptParts.{ScriptParts}
use Rattle.xmp_edit.specs.Scripts.{edits_made}
use Rattle.xmp_files.specs.declared.opening.Opened.{Opened}
use Rattle.xmp_files.specs.Faults.{no_file}
use Rattle.xmp_files.specs.Stages.{followed, Followed}
use Rattle.xmp_files.specs.Keeping.{Kept}
use Rattle.xmp_files.specs.Planning.{Edited, Plan}
use Rattle.xmp_files.specs.Plans.{IsPlanned, MayPlan}
use Rattle.xmp_files.specs.Planneds.{PlannedFile, PlanAnswer}
use Rattle.xmp_files.proofs.OnePlan.{planned_there}
use Rattle.xmp_cli.specs.Edits.{Source, Given, Lines, text_of, edits_from, part_of, in_part, with_tree, made, edited_from, edited_of}
use Rattle.xmp_cli.specs.EditRefusals.{IsStopOf, IsEditRefusal}
use Rattle.xmp_cli.specs.EditSteps.{told_by, Stopped, TextCall, IsPlanOf, FromText, PlanCall}
use Rattle.xmp_cli.proofs.ScriptsThere.{ThereAt, script_there, one_set_there, edits_there}

-- No edits are refused as a file that isn't there.

abbrev There : {X : Type 0} → Result X Fault → Type 0
There (Ok x) = Unit {0}
There (Err fault) = fault.rule ≡ NoFile → ⊥

in_part_there : {X : Type 0} (part : Part) (r : Result X (Rule × ℕ)) → ThereAt r → There (in_part part r)
in_part_there part (Ok x) h = tt
in_part_there part (Err (rule, at)) h = h

followed_there : {A B : Type 0} (r : Result A Fault) (next : A → Result B Fault) → There r → ((x : A) → There (next x)) → There (followed r next)
followed_there (Ok x) next h later = later x
followed_there (Err fault) next h later = h

edits_from_there : (source : Source) (text : List ℕ) (hints : List Hint) → ThereAt (edits_from source text hints)
edits_from_there (Given path value) text hints = one_set_there hints path value
edits_from_there (Lines script) text hints = script_there hints text

made_there : (part : Part) (old : Parts) (script : ScriptParts) → There (made part old script)
made_there part old script = followed_there (in_part part (edits_made script.edits old)) (with_tree old script.hints) (in_part_there part (edits_made script.edits old) (edits_there script.edits old)) (λ new. tt)

edited_there : (source : Source) (text : List ℕ) (meaning : Meaning) → There (edited_from source text meaning)
unfolding edited_from
edited_there source text meaning =
    followed_there (in_part (part_of source) (edits_from source text meaning.hints)) (made (part_of source) meaning.tree)
    (in_part_there (part_of source) (edits_from source text meaning.hints) (edits_from_there source text meaning.hints)) (λ script. made_there (part_of source) meaning.tree script)

stop_there_by : (patch : Bool) (step : Result Edited Fault) (kept : Kept) (opened : Opened) (fault : Fault) → There step → IsStopOf patch step kept opened fault → fault.rule ≡ NoFile → ⊥
stop_there_by patch (Ok e) kept opened fault there h rule = planned_there kept opened.joined patch e fault h rule
stop_there_by patch (Err f) kept opened fault there h rule =
    let is : f ≡ fault = (let same : (let r : Result Plan Fault = Err fault in r) ≡ Err f = h in cc) in there (ap (λ (g : Fault). g.rule) is ∙ rule)

-- What a stop of a step gives.

module _ (source : Source) (patch : Bool) (text : List ℕ) (kept : Kept) (opened : Opened) where
  -- the script is refused
  script_stop : (end : PlaceStop) → Gives place_of (let r : Result ScriptParts PlaceStop = Err end in r) (edits_from source text opened.meaning.hints) → FromText source patch text kept opened (Err (stop_in end (part_of source)))
  unfolding edited_from
  script_stop (places.Fault rule at) h =
      subst (λ (step : Result ScriptParts (Rule × ℕ)). Followed (followed (in_part (part_of source) step) (made (part_of source) opened.meaning.tree)) (IsPlanned kept opened.joined patch) (Err (fault_at rule (part_of source) at))) (sym h) refl
  script_stop places.Memory h = tt

  pub script_stopped : (end : PlaceStop) (part : Part) (result : FaultStop) → part ≡ part_of source → result ≡ stop_in end part → Gives place_of (let r : Result ScriptParts PlaceStop = Err end in r) (edits_from source text opened.meaning.hints)
      → FromText source patch text kept opened (Err result)
  script_stopped end part result part_is is h =
      subst (λ (x : FaultStop). FromText source patch text kept opened (Err x)) (sym (is ∙ ap (stop_in end) part_is)) (script_stop end h)

  module _ (script : ScriptParts) (from : edits_from source text opened.meaning.hints ≡ Ok script) where
    -- an edit is refused
    edit_stop : (end : PlaceStop) → Gives place_of (let r : Result Parts PlaceStop = Err end in r) (edits_made script.edits opened.meaning.tree) → FromText source patch text kept opened (Err (stop_in end (part_of source)))
    unfolding edited_from
    edit_stop (places.Fault rule at) h =
        subst (λ (step : Result ScriptParts (Rule × ℕ)). Followed (followed (in_part (part_of source) step) (made (part_of source) opened.meaning.tree)) (IsPlanned kept opened.joined patch) (Err (fault_at rule (part_of source) at))) (sym from)
        (subst (λ (step : Result Parts (Rule × ℕ)). Followed (followed (in_part (part_of source) step) (with_tree opened.meaning.tree script.hints)) (IsPlanned kept opened.joined patch) (Err (fault_at rule (part_of source) at))) (sym h) refl)
    edit_stop places.Memory h = tt

    pub edit_stopped : (end : PlaceStop) (part : Part) (result : FaultStop) → part ≡ part_of source → result ≡ stop_in end part → Gives place_of (let r : Result Parts PlaceStop = Err end in r) (edits_made script.edits opened.meaning.tree)
        → FromText source patch text kept opened (Err result)
    edit_stopped end part result part_is is h =
        subst (λ (x : FaultStop). FromText source patch text kept opened (Err x)) (sym (is ∙ ap (stop_in end) part_is)) (edit_stop end h)

    module _ (new : Parts) (by : edits_made script.edits opened.meaning.tree ≡ Ok new) where
      edited_is : edited_from source text opened.meaning ≡ Ok (record { old = opened.meaning.tree; new = new; hints = script.hints; digest = None })
      unfolding edited_from
      edited_is =
          ap (λ (step : Result ScriptParts (Rule × ℕ)). followed (in_part (part_of source) step) (made (part_of source) opened.meaning.tree)) from
          ∙ ap (λ (step : Result Parts (Rule × ℕ)). followed (in_part (part_of source) step) (with_tree opened.meaning.tree script.hints)) by

      -- the plan is made, or refused
      plan_from : (result : Result PlannedFile FaultStop) → PlanAnswer kept opened.joined patch (record { old = opened.meaning.tree; new = new; hints = script.hints; digest = None }) result
          → IfOk result (λ _. new ≢ opened.meaning.tree → MayPlan new script.hints) → FromText source patch text kept opened result
      plan_from (Ok p) h may = (
        record { edited = record { old = opened.meaning.tree; new = new; hints = script.hints; digest = None }; is = edited_is; scripted = refl; planned = h.0; written = may },
        h.1,
      )
      plan_from (Err (faults.Fault fault)) h may =
          subst (λ (step : Result Edited Fault). IsStopOf patch step kept opened fault) (sym edited_is) h
      plan_from (Err faults.Memory) h may = tt

      pub planned_from : (hints : List Hint) (given : Bool) (result : Result PlannedFile FaultStop) → hints ≡ script.hints → given ≡ patch
          → PlanAnswer kept opened.joined given (record { old = opened.meaning.tree; new = new; hints = hints; digest = None }) result
          → IfOk result (λ _. new ≢ opened.meaning.tree → MayPlan new hints) → FromText source patch text kept opened result
      planned_from hints given result is by h may =
          plan_from result (subst (λ (hs : List Hint). PlanAnswer kept opened.joined patch (record { old = opened.meaning.tree; new = new; hints = hs; digest = None }) result) is
          (subst (λ (b : Bool). PlanAnswer kept opened.joined b (record { old = opened.meaning.tree; new = new; hints = hints; digest = None }) result) by h))
          (subst (λ (hs : List Hint). IfOk result (λ _. new ≢ opened.meaning.tree → MayPlan new hs)) is may)

-- With SCRIPT's text.

text_refused : (source : Source) (patch : Bool) (meaning : Meaning) (text : Result (List ℕ) Fault) (kept : Kept) (opened : Opened) (fault : Fault) → text ≡ Err fault
    → IsStopOf patch (followed text (λ t. edited_from source t meaning)) kept opened fault
text_refused source patch meaning text kept opened fault e =
    subst (λ (r : Result (List ℕ) Fault). IsStopOf patch (followed r (λ t. edited_from source t meaning)) kept opened fault) (sym e) refl

module _ (source : Source) (patch : Bool) (s t : DeskState) (kept : Kept) (opened : Opened) where
  stop_told : (end : FileStop) → Told s.files (λ files. Gives told_by (let r : Result (List ℕ) FileStop = Err end in r) (text_of source files))
      → Told s.files (λ files. Answers told_by (let r : Result PlannedFile FileStop = Err end in r) (λ p. IsPlanOf patch (edited_of source files opened.meaning) kept opened p.plan) (IsStopOf patch (edited_of source files opened.meaning) kept opened))
  stop_told stop.Absent h files e = text_refused source patch opened.meaning (text_of source files) kept opened no_file (h files e)
  stop_told (stop.Fault fault) h files e = text_refused source patch opened.meaning (text_of source files) kept opened fault (h files e)
  stop_told stop.Device h files e = tt
  stop_told stop.Memory h files e = tt

  same_end : {X Y : Type 0} (a b : FileStop) → (let r : Result X FileStop = Err a in r) ≡ Err b → (let r : Result Y FileStop = Err a in r) ≡ Err b
  same_end {X} {Y} a b e = let is : a ≡ b = cc in ap (λ (x : FileStop). let r : Result Y FileStop = Err x in r) is

  stopped_as : (end : FileStop) → Stopped s t (let r : Result (List ℕ) FileStop = Err end in r) → Stopped s t (let r : Result PlannedFile FileStop = Err end in r)
  stopped_as end a = record {
    there = λ e. a.there (same_end end stop.Absent e);
    missed = λ fault e rule. a.missed fault (same_end end (stop.Fault fault) e) rule;
    device = λ e. a.device (same_end end stop.Device e);
  }

  -- SCRIPT gives no text
  pub text_stopped : (end : FileStop) → TextCall source s t (Err end) → PlanCall source patch s t kept opened (Err end)
  text_stopped end a = record {
    reads = a.reads;
    told = stop_told end a.told;
    stopped = stopped_as end a.stopped;
    refuses = λ fault e. inl (a.refuses fault (same_end end (stop.Fault fault) e));
    planned = tt;
  }

  module _ (text : List ℕ) (a : TextCall source s t (Ok text)) where
    edited_same : (files : Files) → s.files ≡ Some files → edited_of source files opened.meaning ≡ edited_from source text opened.meaning
    edited_same files e = ap (λ (r : Result (List ℕ) Fault). followed r (λ x. edited_from source x opened.meaning)) (a.told files e)

    pub plan_done : (p : PlannedFile) → FromText source patch text kept opened (Ok p) → PlanCall source patch s t kept opened (Ok p)
    plan_done p h = record {
      reads = a.reads;
      told = λ files e. subst (λ (step : Result Edited Fault). IsPlanOf patch step kept opened p.plan) (sym (edited_same files e)) h.0;
      stopped = record { there = λ e. cc; missed = λ fault e rule. absurd (cc e); device = λ e. absurd (cc e) };
      refuses = λ fault e. absurd (cc e);
      planned = (edited_from source text opened.meaning, h.0, h.1);
    }

    plan_stop : (end : FaultStop) → FromText source patch text kept opened (Err end) → PlanCall source patch s t kept opened (Err (file_stop end))
    plan_stop (faults.Fault f) h = record {
      reads = a.reads;
      told = λ files e. subst (λ (step : Result Edited Fault). IsStopOf patch step kept opened f) (sym (edited_same files e)) h;
      stopped = record {
        there = λ e. cc;
        missed = λ fault e rule. absurd (stop_there_by patch (edited_from source text opened.meaning) kept opened f (edited_there source text opened.meaning) h (ap (λ (g : Fault). g.rule) (same_as f fault e) ∙ rule));
        device = λ e. absurd (cc e);
      };
      refuses = λ fault e. subst (IsEditRefusal source patch t) (same_as f fault e) (inr (record { text = text; of_source = a.text; kept = kept; opened = opened; is = h }));
      planned = tt;
    }
      where
        same_as : (f g : Fault) → (let r : Result PlannedFile FileStop = Err (stop.Fault f) in r) ≡ Err (stop.Fault g) → f ≡ g
        same_as f g e = cc
    plan_stop faults.Memory h = record {
      reads = a.reads;
      told = λ files e. tt;
      stopped = record { there = λ e. cc; missed = λ fault e rule. absurd (cc e); device = λ e. absurd (cc e) };
      refuses = λ fault e. absurd (cc e);
      planned = tt;
    }

    pub plan_stopped : (end : FaultStop) (result : FileStop) → result ≡ file_stop end → FromText source patch text kept opened (Err end) → PlanCall source patch s t kept opened (Err result)
    plan_stopped end result is h = subst (λ (x : FileStop). PlanCall source patch s t kept opened (Err x)) (sym is) (plan_stop end h)
