-- A command has at most one outcome over files.
use Rattle.std.proofs.Common.{◌≡◌, ℕ, List, Bool, true, false, sym, ap, ◌∙◌, subst, Some, None, Ok, Err}
use Rattle.std.specs.declared.option.Option.{Option}
use Rattle.std.specs.declared.result.Result.{Result}
use Rattle.std.specs.FinMap.{get}
use Rattle.xmp_base.specs.Device.{Files, bytes_of}
use Rattle.xmp_values.specs.declared.faults.Fault.{Fault}
use Rattle.xmp_rdf.specs.declared.meanings.Meaning.{Meaning}
use Rattle.xmp_files.specs.declared.opening.Opened.{Opened}
use Rattle.xmp_files.specs.declared.held.Need.TheVariants.{Packet}
use Rattle.xmp_files.specs.Stages.{Followed}
use Rattle.xmp_files.specs.Keeping.{Kept}
use Rattle.xmp_files.specs.Planning.{Edited, Plan}
use Rattle.xmp_files.specs.Plans.{IsPlanned}
use Rattle.xmp_files.proofs.OneStep.{one_loaded, one_opened, one_held}
use Rattle.xmp_files.proofs.OnePlan.{one_planned}
use Rattle.xmp_cli.specs.Commands.{Command, Get, Tree, Set, Apply, Patch, Reconcile, Check, Demo, Sync}
use Rattle.xmp_cli.specs.Answer.{Change, Outcome, IsOutcome, IsShown, IsEditing, HasPlan, IsOpenPlan, IsEditPlan, put_out, exchange_in, reported, shown, seen}
use Rattle.xmp_cli.specs.Edits.{Source, Given, Lines, edited_of}
use Rattle.xmp_cli.specs.Order.{get_text, shown_tree}

shown_once : (view : Meaning → Result (List ℕ) Fault) (file : Option (List ℕ)) (a b : Outcome) → IsShown view file a → IsShown view file b → a ≡ b
shown_once view file a b p q =
    p.2 ∙ ap (λ (step : Result Opened Fault). shown (seen view step)) (one_held file p.0 q.0 p.1 q.1) ∙ sym q.2

-- what the edits of a source make of a file is one thing
module _ (source : Source) (patch : Bool) (files : Files) where
  one_edit_plan : (kept : Kept) (opened : Opened) (e : Result Edited Fault) (a b : Result Plan Fault)
      → Followed e (IsPlanned kept opened.joined patch) a → Followed e (IsPlanned kept opened.joined patch) b → a ≡ b
  one_edit_plan kept opened (Ok e) a b p q = one_planned kept opened.joined patch e a b p q
  one_edit_plan kept opened (Err fault) a b p q = p ∙ sym q

  one_open_plan : (kept : Kept) (o r : Result Opened Fault) (a b : Result Plan Fault) → o ≡ r
      → Followed o (IsEditPlan source patch files kept) a → Followed r (IsEditPlan source patch files kept) b → a ≡ b
  one_open_plan kept (Ok o) r a b same p q =
      one_edit_plan kept o (edited_of source files o.meaning) a b p (subst (λ (x : Result Opened Fault). Followed x (IsEditPlan source patch files kept) b) (sym same) q)
  one_open_plan kept (Err fault) r a b same p q = p ∙ sym (subst (λ (x : Result Opened Fault). Followed x (IsEditPlan source patch files kept) b) (sym same) q)

  one_kept_plan : (k l : Result Kept Fault) (a b : Result Plan Fault) → k ≡ l
      → Followed k (IsOpenPlan source patch files) a → Followed l (IsOpenPlan source patch files) b → a ≡ b
  one_kept_plan (Ok k) l a b same p q = both (subst (λ (x : Result Kept Fault). Followed x (IsOpenPlan source patch files) b) (sym same) q)
    where
      both : IsOpenPlan source patch files k b → a ≡ b
      both r = one_open_plan k p.0 r.0 a b (one_opened k p.0 r.0 p.1 r.1) p.2 r.2
  one_kept_plan (Err fault) l a b same p q = p ∙ sym (subst (λ (x : Result Kept Fault). Followed x (IsOpenPlan source patch files) b) (sym same) q)

  one_plan : (file : Option (List ℕ)) (a b : Result Plan Fault) → HasPlan source patch files file a → HasPlan source patch files file b → a ≡ b
  one_plan file a b p q = one_kept_plan p.0 q.0 a b (one_loaded Packet file p.0 q.0 p.1 q.1) p.2 q.2

  one_editing : (change : List ℕ → Plan → Option Change) (file : List ℕ) (a b : Outcome) → IsEditing source patch change file files a → IsEditing source patch change file files b → a ≡ b
  one_editing change file a b p q =
      p.2 ∙ ap (λ (step : Result Plan Fault). reported change (bytes_of files file) step) (one_plan (get files file) p.0 q.0 p.1 q.1) ∙ sym q.2

pub one_outcome : (command : Option Command) (files : Files) (a b : Outcome) → IsOutcome command files a → IsOutcome command files b → a ≡ b
one_outcome None files a b p q = p ∙ sym q
one_outcome (Some (Get file path)) files a b p q = shown_once (get_text path) (get files file) a b p q
one_outcome (Some (Tree file)) files a b p q = shown_once shown_tree (get files file) a b p q
one_outcome (Some (Set file out path value)) files a b p q = one_editing (Given path value) false files (put_out out) file a b p q
one_outcome (Some (Apply file out script)) files a b p q = one_editing (Lines script) false files (put_out out) file a b p q
one_outcome (Some (Patch file script)) files a b p q = one_editing (Lines script) true files (exchange_in file) file a b p q
one_outcome (Some (Reconcile file out)) files a b p q = p ∙ sym q
one_outcome (Some (Check file)) files a b p q = p ∙ sym q
one_outcome (Some (Demo number)) files a b p q = p ∙ sym q
one_outcome (Some (Sync file out)) files a b p q = p ∙ sym q
