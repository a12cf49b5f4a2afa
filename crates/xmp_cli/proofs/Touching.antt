-- What a command has done to the desk so far, step by step.
use Rattle.std.proofs.Common.{◌≡◌, ℕ, ◌+◌, List, [], ◌++◌, refl, sym, ap, ◌∙◌, arith, Some, subst, append-nil, append_assoc}
use Rattle.std.specs.declared.option.Option.{Option}
use Rattle.std.specs.declared.result.Result.{Result}
use Rattle.std.proofs.lemmas.List.Elements.{All-append, All-nil, All-weaker}
use Rattle.std.specs.FinMap.{get, insert}
use Rattle.xmp_base.specs.Device.{DeskState, Lens, Moved, OthersKeep, Told}
use Rattle.xmp_base.specs.Whole.{ReadSome}
use Rattle.xmp_base.specs.Exchange.{Exchanged}
use Rattle.xmp_base.specs.Windows.{IsInside}
use Rattle.xmp_base.specs.declared.device.Failed.{Failed}
use Rattle.xmp_base.proofs.Calls.{counts_trans}
use Rattle.xmp_base.proofs.Names.{get-insert_other}
use Rattle.xmp_values.specs.declared.stops.FileStop.{FileStop}
use Rattle.xmp_files.specs.declared.held.Need.TheVariants.{Packet}
use Rattle.xmp_files.specs.Keeping.{Kept}
use Rattle.xmp_files.specs.Loads.{LoadCall}
use Rattle.xmp_files.specs.Planning.{Plan}
use Rattle.xmp_files.specs.Plans.{planned_len}
use Rattle.xmp_files.specs.Emitting.{EmitCall}
use Rattle.xmp_files.specs.Sparing.{Spared}
use Rattle.xmp_files.proofs.Loads.{spared_none}
use Rattle.xmp_cli.specs.Commands.{Command, Get, Tree, Patch}
use Rattle.xmp_cli.specs.Access.{MayRead, MayWrite}
use Rattle.xmp_cli.specs.Run.{Touches, MovesOf, SparesPictures}

moved_none : (May : List ℕ → Type 0) (old new : Option (List Moved)) → new ≡ old → MovesOf May old new
moved_none May old new same moves told = ([], same ∙ told ∙ ap Some (sym (append-nil moves)), All-nil (λ (m : Moved). May m.0))

spares_none : (command : Option Command) (s t : DeskState) → t.reads ≡ s.reads → SparesPictures command s t
spares_none (Some (Get file path)) s t same = spared_none Packet s t file same
spares_none (Some (Tree file)) s t same = spared_none Packet s t file same
spares_none (Some (Patch file script)) s t same = spared_none Packet s t file same
spares_none other s t same = tt

-- no call
pub touches_none : (command : Option Command) (s : DeskState) → Touches command s s
touches_none command s = record {
  counts = record { faults = omega arith; misses = omega arith; plan = refl };
  reads = moved_none (MayRead command) s.reads s.reads refl;
  wrote = moved_none (MayWrite command) s.wrote s.wrote refl;
  others = λ name read write. refl;
  kept = λ files told. (files, told, λ name no. refl);
  spared = spares_none command s s refl;
}

-- FILE was loaded
pub touches_load : (command : Option Command) (s t : DeskState) (file : List ℕ) (result : Result Kept FileStop) → MayRead command file
    → (Spared Packet s t file → SparesPictures command s t) → LoadCall Packet s t file result → Touches command s t
touches_load command s t file result may spares a = record {
  counts = a.calls.counts;
  reads = λ reads told. let m = a.calls.reads reads told in
      (m.0, m.1, All-weaker (λ (x : Moved). x.0 ≡ file) (λ (x : Moved). MayRead command x.0) (λ (x : Moved) e. subst (MayRead command) (sym e) may) m.0 m.2);
  wrote = moved_none (MayWrite command) s.wrote t.wrote a.calls.same.wrote;
  others = λ name read write. a.others name (λ e. read (subst (MayRead command) (sym e) may));
  kept = λ files told. (files, a.calls.same.files ∙ told, λ name no. refl);
  spared = spares a.spared;
}

moved_trans : (May : List ℕ → Type 0) (a b c : Option (List Moved)) → MovesOf May a b → MovesOf May b c → MovesOf May a c
moved_trans May a b c p q moves told =
    let m = p moves told in let n = q (moves ++ m.0) m.1 in
    (m.0 ++ n.0, n.1 ∙ ap Some (append_assoc moves m.0 n.0), All-append (λ (x : Moved). May x.0) m.0 n.0 m.2 n.2)

-- one step after another
pub touches_trans : (command : Option Command) (s t u : DeskState) → SparesPictures command s u → Touches command s t → Touches command t u → Touches command s u
touches_trans command s t u spares a b = record {
  counts = counts_trans s t u a.counts b.counts;
  reads = moved_trans (MayRead command) s.reads t.reads u.reads a.reads b.reads;
  wrote = moved_trans (MayWrite command) s.wrote t.wrote u.wrote a.wrote b.wrote;
  others = λ name read write. b.others name read write ∙ a.others name read write;
  kept = λ files told. let m = a.kept files told in let n = b.kept m.0 m.1 in (n.0, n.1, λ name no. n.2 name no ∙ m.2 name no);
  spared = spares;
}

-- SCRIPT was read
pub touches_read : (command : Option Command) (s t : DeskState) (script : List ℕ) → MayRead command script → SparesPictures command s t
    → ReadSome s t script → OthersKeep s.lens t.lens script → Touches command s t
touches_read command s t script may spares a others = record {
  counts = a.counts;
  reads = λ reads told. let m = a.reads reads told in
      (m.0, m.1, All-weaker (λ (x : Moved). x.0 ≡ script) (λ (x : Moved). MayRead command x.0) (λ (x : Moved) e. subst (MayRead command) (sym e) may) m.0 m.2);
  wrote = moved_none (MayWrite command) s.wrote t.wrote a.same.wrote;
  others = λ name read write. others name (λ e. read (subst (MayRead command) (sym e) may));
  kept = λ files told. (files, a.same.files ∙ told, λ name no. refl);
  spared = spares;
}

-- OUT was written
pub touches_emit : (command : Option Command) (s t : DeskState) (plan : Plan) (size : ℕ) (file out : List ℕ) (result : Result (Unit {0}) Failed) → MayRead command file → MayWrite command out
    → SparesPictures command s t → EmitCall s t plan size file out result → Touches command s t
touches_emit command s t plan size file out result may_read may_write spares a = record {
  counts = a.counts;
  reads = λ reads told. let m = a.reads reads told in
      (m.0, m.1, All-weaker (λ (x : Moved). x.0 ≡ file) (λ (x : Moved). MayRead command x.0) (λ (x : Moved) e. subst (MayRead command) (sym e) may_read) m.0 m.2);
  wrote = λ wrote told. let m = a.wrote wrote told in
      (m.0, m.1, All-weaker (IsInside out 0 (planned_len size plan)) (λ (x : Moved). MayWrite command x.0) (λ (x : Moved) i. subst (MayWrite command) (sym i.of_name) may_write) m.0 m.2);
  others = λ name read write. a.others name (λ e. write (subst (MayWrite command) (sym e) may_write));
  kept = λ files told. let m = a.told files told in (m.0, m.1, λ name no. m.2 name (λ e. no (subst (MayWrite command) (sym e) may_write)));
  spared = spares;
}

-- bytes were exchanged inside FILE
pub touches_exchange : (command : Option Command) (s t : DeskState) (file : List ℕ) (at size : ℕ) (Now : List ℕ → List ℕ → Type 0) → MayWrite command file
    → Told s.files (λ files. (bytes : List ℕ) × (t.files ≡ Some (insert files file bytes))) → Exchanged s t file at size Now → Touches command s t
touches_exchange command s t file at size Now may after a = record {
  counts = a.counts;
  reads = moved_none (MayRead command) s.reads t.reads a.reads;
  wrote = λ wrote told. let m = a.wrote wrote told in
      (m.0, m.1, All-weaker (IsInside file at (at + size)) (λ (x : Moved). MayWrite command x.0) (λ (x : Moved) i. subst (MayWrite command) (sym i.of_name) may) m.0 m.2);
  others = λ name read write. ap (λ (l : Lens). get l name) a.lens;
  kept = λ files told. let m = after files told in (insert files file m.0, m.1, λ name no. get-insert_other files file m.0 name (λ e. no (subst (MayWrite command) (sym e) may)));
  spared = spares_none command s t a.reads;
}
