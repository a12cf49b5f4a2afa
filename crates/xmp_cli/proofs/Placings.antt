-- What making the change of a plan has done to the files, by the command.
use Rattle.std.proofs.Common.{◌≡◌, ◌⊎◌, ◌∙◌, ℕ, Bool, true, false, List, Option, Some, Ok, Err, refl, sym, subst, inl}
use Rattle.std.specs.declared.result.Result.{Result}
use Rattle.std.specs.FinMap.{get}
use Rattle.xmp_base.specs.Device.{DeskState, Files, Told, SameFiles, bytes_of}
use Rattle.xmp_base.specs.declared.device.Failed.{Failed}
use Rattle.xmp_values.specs.declared.faults.Fault.{Fault}
use Rattle.xmp_files.specs.declared.opening.Opened.{Opened}
use Rattle.xmp_files.specs.declared.held.Need.TheVariants.{Packet}
use Rattle.xmp_files.specs.Keeping.{Kept}
use Rattle.xmp_files.specs.Loading.{IsLoaded}
use Rattle.xmp_files.specs.Opening.{IsOpened}
use Rattle.xmp_files.specs.Emitting.{EmitCall}
use Rattle.xmp_files.specs.Patching.{FileIsPatched, PatchCall}
use Rattle.xmp_files.specs.Planning.{Edited, Plan, Same, planned_file}
use Rattle.xmp_files.proofs.Patches.{patch_plan}
use Rattle.xmp_files.proofs.PlanCases.{IsExchange}
use Rattle.xmp_cli.specs.declared.edits.Edits.{Edits}
use Rattle.xmp_cli.specs.declared.edits.Edits.TheVariants.{Set, Apply, Patch}
use Rattle.xmp_cli.specs.Access.{MayRead, MayWrite, file_of, written_of}
use Rattle.xmp_cli.specs.Commands.{Command, Patch as PatchOf}
use Rattle.xmp_cli.specs.Answer.{Plans, PlansFor, put_out, exchange_in}
use Rattle.xmp_cli.specs.Edits.{Source, Given, Lines, edited_of}
use Rattle.xmp_cli.specs.EditSteps.{source, command_of, is_inside, change_of, IsPlanOf, Placed}
use Rattle.xmp_cli.specs.Left.{Written, Patched}
use Rattle.xmp_cli.specs.Run.{Touches, SparesPictures, Writes}
use Rattle.xmp_cli.proofs.EditEnds.{Broken, Whole}
use Rattle.xmp_cli.proofs.OutEnds.{out_broken, out_there, out_whole}
use Rattle.xmp_cli.proofs.PatchEnds.{patch_broken, patch_there, patch_whole}
use Rattle.xmp_cli.proofs.Touching.{touches_emit, touches_trans}
use Rattle.xmp_cli.proofs.WrittenEdits.{written_is}

-- what stands before the change is made
pub record ReadyFor (c : Command) (patch : Bool) (of : Source) (file : List ℕ) (s t : DeskState) (kept : Kept) (opened : Opened) (plan : Plan) : Type 0 where
  pub same : SameFiles s t
  pub before : Touches (Some c) s t
  pub loaded : Told s.files (λ files. IsLoaded Packet (get files file) (Ok kept))
  pub opens : IsOpened kept (Ok opened)
  pub of_run : Told s.files (λ files. IsPlanOf patch (edited_of of files opened.meaning) kept opened plan)
  pub step : Result Edited Fault
  pub planned : IsPlanOf patch step kept opened plan

same_name : (a b : List ℕ) → (let x : Option (List ℕ) = Some a in x) ≡ Some b → a ≡ b
same_name a b e = cc

-- what was written is read back, and the rest kept
writes_of : (c : Command) (of : Source) (patch : Bool) (file written : List ℕ) (files : Files) (u : DeskState) (kept : Kept) (opened : Opened) (plan : Plan)
    → IsLoaded Packet (get files file) (Ok kept) → IsOpened kept (Ok opened) → IsPlanOf patch (edited_of of files opened.meaning) kept opened plan
    → file_of c ≡ Some file → written_of c ≡ Some written → ((k : Kept) (d : Edited) (n : Plan) → Plans c files k d n → PlansFor of patch (get files file) files k d n)
    → ((now : Files) → u.files ≡ Some now → get now written ≡ Some (planned_file (bytes_of files file) plan)) → Writes (Some c) files u
writes_of c of patch file written files u kept opened plan loaded opens of_run file_is written_to plans stands k d n x f w is_file is_written now e =
    subst (λ (l : List ℕ). Written (get files l) (get now w) k d n) (same_name file f (sym file_is ∙ is_file))
    (subst (λ (l : List ℕ). Written (get files file) (get now l) k d n) (same_name written w (sym written_to ∙ is_written))
    (written_is of patch file files kept opened plan loaded opens of_run k d n (plans k d n x) (get now written) (stands now e)))

-- a command that writes OUT
module _ (c : Command) (of : Source) (file out : List ℕ) (s t u : DeskState) (kept : Kept) (opened : Opened) (plan : Plan) (same : SameFiles s t) (before : Touches (Some c) s t)
    (loaded : Told s.files (λ files. IsLoaded Packet (get files file) (Ok kept))) (opens : IsOpened kept (Ok opened))
    (of_run : Told s.files (λ files. IsPlanOf false (edited_of of files opened.meaning) kept opened plan))
    (may_read : MayRead (Some c) file) (may_write : MayWrite (Some c) out) (spared : (x y : DeskState) → SparesPictures (Some c) x y) (patched : (files : Files) → Patched (Some c) files s u) where
  out_touches : (result : Result (Unit {0}) Failed) → EmitCall t u plan kept.size file out result → Touches (Some c) s u
  out_touches result a = touches_trans (Some c) s t u (spared s u) before (touches_emit (Some c) t u plan kept.size file out result may_read may_write (spared t u) a)

  broken_out : (failed : Failed) → EmitCall t u plan kept.size file out (Err failed) → Broken c s u (λ files. put_out out (bytes_of files file) plan)
  broken_out failed a = out_broken c s t u file out plan kept.size same before.counts (out_touches (Err failed) a) (λ files e. patched files) failed a

  whole_out : file_of c ≡ Some file → written_of c ≡ Some out → ((files : Files) (k : Kept) (d : Edited) (n : Plan) → Plans c files k d n → PlansFor of false (get files file) files k d n)
      → (unit : Unit {0}) → EmitCall t u plan kept.size file out (Ok unit) → Whole c s u (λ files. put_out out (bytes_of files file) plan)
  whole_out file_is out_is plans unit a =
      out_whole c s t u file out plan kept.size same before.counts (out_touches (Ok unit) a) (λ files e. patched files) unit a
      (λ files e. writes_of c of false file out files u kept opened plan (loaded files e) opens (of_run files e) file_is out_is (plans files)
      (λ now is. out_there c s t u file out plan kept.size same before.counts (out_touches (Ok unit) a) (λ files e. patched files) unit a files now e is))

-- `patch`
module _ (file script : List ℕ) (s t u : DeskState) (kept : Kept) (opened : Opened) (plan : Plan) (p : ReadyFor (PatchOf file script) true (Lines script) file s t kept opened plan) where
  exchange : (plan ≡ Same) ⊎ IsExchange kept.payload p.planned.edited plan
  exchange = patch_plan kept opened.joined p.planned.edited plan p.planned.scripted p.planned.planned

  broken_patch : FileIsPatched → (failed : Failed) → PatchCall t u file kept.payload plan (Err failed) → Broken (PatchOf file script) s u (λ files. exchange_in file (bytes_of files file) plan)
  broken_patch law failed a = patch_broken file script s t u p.same p.before kept opened plan p.loaded p.opens p.of_run law p.planned.edited failed exchange a

  whole_patch : FileIsPatched → (unit : Unit {0}) → PatchCall t u file kept.payload plan (Ok unit) → Whole (PatchOf file script) s u (λ files. exchange_in file (bytes_of files file) plan)
  whole_patch law unit a = patch_whole file script s t u p.same p.before kept opened plan p.loaded p.opens p.of_run law p.planned.edited unit exchange a
      (λ files e. writes_of (PatchOf file script) (Lines script) true file file files u kept opened plan (p.loaded files e) p.opens (p.of_run files e) refl refl (λ k d n x. x)
      (λ now is. patch_there file script s t u p.same p.before kept opened plan p.loaded p.opens p.of_run law p.planned.edited unit exchange a files now e is))

-- by the edits

pub broken_by : (file : List ℕ) (edits : Edits) (s t u : DeskState) (kept : Kept) (opened : Opened) (plan : Plan)
    → ReadyFor (command_of file edits) (is_inside edits) (source edits) file s t kept opened plan → (failed : Failed) → Placed t u kept plan file edits (Err failed)
    → Broken (command_of file edits) s u (λ files. change_of file edits (bytes_of files file) plan)
broken_by file (Set out path value) s t u kept opened plan p failed a =
    broken_out (command_of file (Set out path value)) (Given path.now value.now) file out.now s t u kept opened plan p.same p.before p.loaded p.opens p.of_run (inl refl) refl (λ x y. tt) (λ files. tt) failed a
broken_by file (Apply out script) s t u kept opened plan p failed a =
    broken_out (command_of file (Apply out script)) (Lines script.now) file out.now s t u kept opened plan p.same p.before p.loaded p.opens p.of_run (inl refl) refl (λ x y. tt) (λ files. tt) failed a
broken_by file (Patch script) s t u kept opened plan p failed a = broken_patch file script.now s t u kept opened plan p a.1 failed a.0

pub whole_by : (file : List ℕ) (edits : Edits) (s t u : DeskState) (kept : Kept) (opened : Opened) (plan : Plan)
    → ReadyFor (command_of file edits) (is_inside edits) (source edits) file s t kept opened plan → (unit : Unit {0}) → Placed t u kept plan file edits (Ok unit)
    → Whole (command_of file edits) s u (λ files. change_of file edits (bytes_of files file) plan)
whole_by file (Set out path value) s t u kept opened plan p unit a =
    whole_out (command_of file (Set out path value)) (Given path.now value.now) file out.now s t u kept opened plan p.same p.before p.loaded p.opens p.of_run (inl refl) refl (λ x y. tt) (λ files. tt)
    refl refl (λ files k d n x. x) unit a
whole_by file (Apply out script) s t u kept opened plan p unit a =
    whole_out (command_of file (Apply out script)) (Lines script.now) file out.now s t u kept opened plan p.same p.before p.loaded p.opens p.of_run (inl refl) refl (λ x y. tt) (λ files. tt)
    refl refl (λ files k d n x. x) unit a
whole_by file (Patch script) s t u kept opened plan p unit a = whole_patch file script.now s t u kept opened plan p a.1 unit a.0
