-- What a command that edits has written is read as the new tree, and keeps what its plan says.
use Rattle.std.proofs.Common.{◌≡◌, ◌≢◌, ◌∙◌, ℕ, Bool, List, [], Option, Some, None, Ok, Err, refl, sym, ap, subst}
use Rattle.std.specs.declared.result.Result.{Result}
use Rattle.std.specs.Option.{unwrap_or}
use Rattle.std.specs.FinMap.{get}
use Rattle.xmp_base.specs.Device.{Files, bytes_of}
use Rattle.xmp_values.specs.declared.faults.Fault.{Fault}
use Rattle.xmp_values.specs.declared.hints.Hint.{Hint}
use Rattle.xmp_values.specs.declared.rules.Rule.{Rule}
use Rattle.xmp_values.specs.declared.faults.Part.{Part}
use Rattle.xmp_tree.specs.Parts.{Parts}
use Rattle.xmp_rdf.specs.declared.meanings.Meaning.{Meaning}
use Rattle.xmp_edit.specs.ScriptParts.{ScriptParts}
use Rattle.xmp_edit.specs.Scripts.{edits_made}
use Rattle.xmp_files.specs.declared.opening.Opened.{Opened}
use Rattle.xmp_files.specs.declared.held.Need.TheVariants.{Packet}
use Rattle.xmp_files.specs.Faults.{no_file}
use Rattle.xmp_files.specs.Stages.{followed}
use Rattle.xmp_files.specs.Keeping.{Kept}
use Rattle.xmp_files.specs.Loading.{IsLoaded}
use Rattle.xmp_files.specs.Opening.{IsOpened, HoldsTree}
use Rattle.xmp_files.specs.Planning.{Edited, Plan, Frame, planned_file}
use Rattle.xmp_files.specs.Plans.{IsPlanned, MayPlan, Apart, NoStray}
use Rattle.xmp_files.proofs.OneStep.{one_loaded, one_opened}
use Rattle.xmp_files.proofs.OnePlan.{one_planned}
use Rattle.xmp_files.proofs.Writes.{file_written}
use Rattle.xmp_cli.specs.Answer.{PlansFor}
use Rattle.xmp_cli.specs.Edits.{Source, text_of, edits_from, part_of, in_part, with_tree, made, edited_from, edited_of}
use Rattle.xmp_cli.specs.EditSteps.{IsPlanOf}
use Rattle.xmp_cli.specs.Left.{Written}

same_ok : {A : Type 0} (x y : A) → (let r : Result A Fault = Ok x in r) ≡ Ok y → x ≡ y
same_ok x y e = cc

same_some : {A : Type 0} (x y : A) → (let o : Option A = Some x in o) ≡ Some y → x ≡ y
same_some x y e = cc

-- the old tree of an edit is that of the file

old_by : (part : Part) (old : Parts) (hints : List Hint) (r : Result Parts (Rule × ℕ)) (e : Edited) → followed (in_part part r) (with_tree old hints) ≡ Ok e → e.old ≡ old
old_by part old hints (Ok new) e is = ap (λ (x : Edited). x.old) (sym (same_ok (record { old = old; new = new; hints = hints; digest = None }) e is))
old_by part old hints (Err (rule, at)) e is = absurd (cc is)

made_old : (part : Part) (old : Parts) (r : Result ScriptParts (Rule × ℕ)) (e : Edited) → followed (in_part part r) (made part old) ≡ Ok e → e.old ≡ old
made_old part old (Ok script) e is = old_by part old script.hints (edits_made script.edits old) e is
made_old part old (Err (rule, at)) e is = absurd (cc is)

from_old : (source : Source) (text : List ℕ) (meaning : Meaning) (e : Edited) → edited_from source text meaning ≡ Ok e → e.old ≡ meaning.tree
unfolding edited_from
from_old source text meaning e is = made_old (part_of source) meaning.tree (edits_from source text meaning.hints) e is

text_old : (source : Source) (text : Result (List ℕ) Fault) (meaning : Meaning) (e : Edited) → followed text (λ t. edited_from source t meaning) ≡ Ok e → e.old ≡ meaning.tree
text_old source (Ok text) meaning e is = from_old source text meaning e is
text_old source (Err fault) meaning e is = absurd (cc is)

pub edited_old : (source : Source) (files : Files) (meaning : Meaning) (e : Edited) → edited_of source files meaning ≡ Ok e → e.old ≡ meaning.tree
edited_old source files meaning e is = text_old source (text_of source files) meaning e is

-- a file that was loaded is there
pub there : (file : Option (List ℕ)) (kept : Kept) → IsLoaded Packet file (Ok kept) → file ≡ Some (unwrap_or file [])
there None kept h = absurd (let bad : Ok kept ≡ Err no_file = h in cc)
there (Some bytes) kept h = refl

module _ (source : Source) (patch : Bool) (file : List ℕ) (files : Files) (kept : Kept) (opened : Opened) (plan : Plan) (loaded : IsLoaded Packet (get files file) (Ok kept)) (opens : IsOpened kept (Ok opened))
    (of_run : IsPlanOf patch (edited_of source files opened.meaning) kept opened plan) where
  module _ (k : Kept) (e : Edited) (n : Plan) (x : PlansFor source patch (get files file) files k e n) where
    same_kept : k ≡ kept
    same_kept = same_ok k kept (one_loaded Packet (get files file) (Ok k) (Ok kept) x.loaded loaded)

    same_opened : x.opened ≡ opened
    same_opened = same_ok x.opened opened (one_opened k (Ok x.opened) (Ok opened) x.opens (subst (λ (y : Kept). IsOpened y (Ok opened)) (sym same_kept) opens))

    same_edited : e ≡ of_run.edited
    same_edited = same_ok e of_run.edited (sym x.edits ∙ ap (λ (o : Opened). edited_of source files o.meaning) same_opened ∙ of_run.is)

    same_plan : n ≡ plan
    same_plan =
        let mine = subst (λ (y : Kept). IsPlanned y opened.joined patch of_run.edited (Ok plan)) (sym same_kept) of_run.planned in
        let of_opened = subst (λ (o : Opened). IsPlanned k o.joined patch of_run.edited (Ok plan)) (sym same_opened) mine in
        let of_edited = subst (λ (d : Edited). IsPlanned k x.opened.joined patch d (Ok plan)) (sym same_edited) of_opened in
        same_ok n plan (one_planned k x.opened.joined patch e (Ok n) (Ok plan) x.planned of_edited)

    may : e.new ≢ e.old → MayPlan e.new e.hints
    may = subst (λ (d : Edited). d.new ≢ d.old → MayPlan d.new d.hints) (sym same_edited) of_run.written

    here : IsLoaded Packet (Some (bytes_of files file)) (Ok k)
    here = subst (λ (f : Option (List ℕ)). IsLoaded Packet f (Ok k)) (there (get files file) k x.loaded) x.loaded

    holds : HoldsTree (Some (bytes_of files file)) e.old
    holds = (x.opened, (Ok k, here, x.opens), sym (edited_old source files x.opened.meaning e x.edits))

    good : (Apart k.container n → NoStray (bytes_of files file) k.container k.portions e n → HoldsTree (Some (planned_file (bytes_of files file) n)) e.new)
        × Frame k n (bytes_of files file) (planned_file (bytes_of files file) n)
    good = let w = file_written Packet (bytes_of files file) k x.opened.joined patch e n here x.planned holds may in (w.0, w.1)

    framed : (before after : List ℕ) → bytes_of files file ≡ before → planned_file (bytes_of files file) n ≡ after → Frame k n before after
    framed before after b a =
        subst (λ (f : List ℕ). Frame k n before f) a (subst (λ (f : List ℕ). Frame k n f (planned_file (bytes_of files file) n)) b good.1)

    pub written_is : (new : Option (List ℕ)) → new ≡ Some (planned_file (bytes_of files file) plan) → Written (get files file) new k e n
    written_is new is =
        let new_is : new ≡ Some (planned_file (bytes_of files file) n) = is ∙ ap (λ (m : Plan). Some (planned_file (bytes_of files file) m)) (sym same_plan) in
        record {
          reads_back = λ apart stray. subst (λ (f : Option (List ℕ)). HoldsTree f e.new) (sym new_is)
              (good.0 apart (stray (bytes_of files file) (there (get files file) k x.loaded)));
          frame = λ before after b a.
              framed before after (same_some (bytes_of files file) before (sym (there (get files file) k x.loaded) ∙ b)) (same_some (planned_file (bytes_of files file) n) after (sym new_is ∙ a));
        }
