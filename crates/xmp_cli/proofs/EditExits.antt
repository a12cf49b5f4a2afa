-- The exits of a command that edits a file, from what its calls returned.
use Rattle.std.proofs.Common.{◌≡◌, ◌⊎◌, ◌≢◌, ◌∙◌, ℕ, List, length, Option, Some, Ok, Err, refl, sym, ap, subst, inl, inr}
use Rattle.std.specs.Prelude.{IsOk}
use Rattle.std.specs.declared.result.Result.{Result}
use Rattle.std.specs.Option.{unwrap_or}
use Rattle.std.specs.FinMap.{get}
use Rattle.std.proofs.lemmas.List.Elements.{All-weaker}
use Rattle.xmp_base.specs.Device.{DeskState, SinkState, Moved, Files, Rose, Told, SameFiles, bytes_of, len_of}
use Rattle.xmp_base.specs.Whole.{ReadSome}
use Rattle.xmp_base.specs.declared.device.Failed.{Failed}
use Rattle.xmp_base.proofs.Calls.{rose_after, same_trans}
use Rattle.xmp_values.specs.declared.faults.Fault.{Fault}
use Rattle.xmp_values.specs.declared.rules.Rule.TheVariants.{NoFile}
use Rattle.xmp_values.specs.declared.stops.FileStop.{FileStop}
use Rattle.xmp_values.specs.declared.stops.FileStop.TheVariants as stop
use Rattle.xmp_files.specs.declared.held.Need.TheVariants.{Packet}
use Rattle.xmp_files.specs.declared.opening.Opened.{Opened}
use Rattle.xmp_files.specs.Faults.{no_file}
use Rattle.xmp_files.specs.Stages.{Followed}
use Rattle.xmp_files.specs.Keeping.{Kept}
use Rattle.xmp_files.specs.Loading.{kind_of_file, IsLoaded}
use Rattle.xmp_files.specs.Loads.{LoadCall, IsLoadRefusal, IsOfSize, PayloadLies}
use Rattle.xmp_files.specs.Opening.{IsOpened}
use Rattle.xmp_files.specs.Planning.{Edited}
use Rattle.xmp_files.specs.Plans.{IsPlanned}
use Rattle.xmp_files.specs.Planneds.{PlannedFile}
use Rattle.xmp_files.specs.Sparing.{Spares, Spared, HasContainer}
use Rattle.xmp_files.proofs.Loads.{spared_none, spared_trans}
use Rattle.xmp_files.proofs.LoadedKept.{loaded_size, loaded_need}
use Rattle.xmp_files.proofs.NeverMissing.{opened_there}
use Rattle.xmp_cli.specs.declared.edits.Edits.{Edits}
use Rattle.xmp_cli.specs.declared.edits.Edits.TheVariants.{Set, Apply, Patch}
use Rattle.xmp_cli.specs.declared.status.Status.{Status}
use Rattle.xmp_cli.specs.declared.status.Status.TheVariants.{Done, Refused, Device, Memory}
use Rattle.xmp_cli.specs.Answer.{Outcome, IsOutcome, IsEditing, reported, refused}
use Rattle.xmp_cli.specs.Access.{MayRead, MayWant}
use Rattle.xmp_cli.specs.Commands.{Command}
use Rattle.xmp_cli.specs.EditRefusals.{IsEditRefusal}
use Rattle.xmp_cli.specs.EditSteps.{source, command_of, is_inside, change_of, ended_by, ReadsSource, IsApart, IsScriptPlan, IsPlanOf, PlanCall, Finished}
use Rattle.xmp_cli.specs.Edits.{Source, Given, Lines, edited_of}
use Rattle.xmp_cli.specs.Reports.{report}
use Rattle.xmp_cli.specs.Run.{RunCall, Refuses, Touches, SparesPictures, IsFileRefusal, IsRefusal}
use Rattle.xmp_cli.specs.Sending.{SendAll}
use Rattle.xmp_cli.proofs.Ends.{refused_call, memory_call, device_call}
use Rattle.xmp_cli.proofs.EditEnds.{change_failed, report_failed, done}
use Rattle.xmp_cli.proofs.Placings.{ReadyFor, broken_by, whole_by}
use Rattle.xmp_cli.proofs.Exits.{not_missing, ok_kind}
use Rattle.xmp_cli.proofs.Refusals.{refuses, joined_refuses}
use Rattle.xmp_cli.proofs.Touching.{touches_none, touches_load, touches_read, touches_trans}

-- What a command promises at an exit.
pub record Ended (file : List ℕ) (edits : Edits) (s t : DeskState) (o p : SinkState) (status : Status) : Type 0 where
  pub call : RunCall (Some (command_of file edits)) s t o p status
  pub refusals : Refuses (Some (command_of file edits)) t status

-- what the words of the command say, by its edits

is_outcome : (file : List ℕ) (edits : Edits) (files : Files) (outcome : Outcome) → IsEditing (source edits) (is_inside edits) (change_of file edits) file files outcome
    → IsOutcome (Some (command_of file edits)) files outcome
is_outcome file (Set out path value) files outcome h = h
is_outcome file (Apply out script) files outcome h = h
is_outcome file (Patch script) files outcome h = h

may_read : (file : List ℕ) (edits : Edits) → MayRead (Some (command_of file edits)) file
may_read file (Set out path value) = inl refl
may_read file (Apply out script) = inl refl
may_read file (Patch script) = inl refl

may_want : (file : List ℕ) (edits : Edits) (files : Files) → IsOk (kind_of_file (get files file)) → MayWant (Some (command_of file edits)) files
may_want file (Set out path value) files h = (tt, h)
may_want file (Apply out script) files h = (tt, h)
may_want file (Patch script) files h = (tt, h)

spares : (file : List ℕ) (edits : Edits) (s t : DeskState) → Spared Packet s t file → SparesPictures (Some (command_of file edits)) s t
spares file (Set out path value) s t h = tt
spares file (Apply out script) s t h = tt
spares file (Patch script) s t h = h

of_file : (file : List ℕ) (edits : Edits) (t : DeskState) (fault : Fault) → IsFileRefusal (len_of t file) fault → IsRefusal (Some (command_of file edits)) t fault
of_file file (Set out path value) t fault h = inl h
of_file file (Apply out script) t fault h = inl h
of_file file (Patch script) t fault h = inl h

of_edit : (file : List ℕ) (edits : Edits) (t : DeskState) (fault : Fault) → IsEditRefusal (source edits) (is_inside edits) t fault → IsRefusal (Some (command_of file edits)) t fault
of_edit file (Set out path value) t fault h = inr h
of_edit file (Apply out script) t fault h = inr h
of_edit file (Patch script) t fault h = inr h

reads_script : (file : List ℕ) (edits : Edits) (script : List ℕ) → source edits ≡ Lines script → MayRead (Some (command_of file edits)) script
reads_script file (Set out path value) script is = absurd (cc is)
reads_script file (Apply out name) script is = inr (let same : name.now ≡ script = cc is in ap (λ (x : List ℕ). Some x) same)
reads_script file (Patch name) script is = inr (let same : name.now ≡ script = cc is in ap (λ (x : List ℕ). Some x) same)

-- SCRIPT was read, and nothing of FILE

spared_other : (s t : DeskState) (file script : List ℕ) → file ≢ script → ReadSome s t script → Spared Packet s t file
spared_other s t file script apart a files told reads of =
    let m = a.reads reads of in (
      m.0,
      m.1,
      All-weaker (λ (x : Moved). x.0 ≡ script) (λ (x : Moved). (kept : Kept) → HasContainer Packet (get files file) kept → x.0 ≡ file → Spares kept x)
          (λ (x : Moved) e kept has is. absurd (apart (sym is ∙ e))) m.0 m.2,
    )

spared_source : (of : Source) (s t : DeskState) (file : List ℕ) → IsApart file of → ReadsSource of s t → Spared Packet s t file
spared_source (Given path value) s t file apart h = spared_none Packet s t file (ap (λ (d : DeskState). d.reads) h)
spared_source (Lines script) s t file apart h = spared_other s t file script apart h.0

known_source : (of : Source) (s t : DeskState) (file : List ℕ) (size : ℕ) → IsApart file of → ReadsSource of s t → get s.lens file ≡ Some size → get t.lens file ≡ Some size
known_source (Given path value) s t file size apart h known = ap (λ (d : DeskState). get d.lens file) h ∙ known
known_source (Lines script) s t file size apart h known = h.1 file apart ∙ known

touches_source : (c : Command) (of : Source) (s t : DeskState) → ((script : List ℕ) → of ≡ Lines script → MayRead (Some c) script) → SparesPictures (Some c) s t → ReadsSource of s t → Touches (Some c) s t
touches_source c (Given path value) s t may spared h = subst (λ (x : DeskState). Touches (Some c) s x) (sym h) (touches_none (Some c) s)
touches_source c (Lines script) s t may spared h = touches_read (Some c) s t script (may script refl) spared h.0 h.1

same_source : (of : Source) (s t : DeskState) → ReadsSource of s t → SameFiles s t
same_source (Given path value) s t h = subst (λ (x : DeskState). SameFiles s x) (sym h) (record { files = refl; wrote = refl })
same_source (Lines script) s t h = h.0.same

same_name : (a b : List ℕ) → (let x : Option (List ℕ) = Some a in x) ≡ Some b → a ≡ b
same_name a b e = cc

module _ (file : List ℕ) (edits : Edits) (apart : IsApart file (source edits)) (s t : DeskState) (o : SinkState) (load : Result Kept FileStop) (a : LoadCall Packet s t file load) where
  touches : Touches (Some (command_of file edits)) s t
  touches = touches_load (Some (command_of file edits)) s t file load (may_read file edits) (spares file edits s t) a

  load_refused : (fault : Fault) → Told s.files (λ files. IsLoaded Packet (get files file) (Err fault)) → (fault.rule ≡ NoFile → Rose s.misses t.misses)
      → ((fault ≡ no_file) ⊎ IsLoadRefusal (len_of t file) fault.rule fault) → Ended file edits s t o o (Refused fault)
  load_refused fault told missed refusal = record {
    call = refused_call (command_of file edits) s t o touches a.calls.same fault
        (λ files e. is_outcome file edits files (refused fault) (Err fault, (Err fault, told files e, refl), refl)) missed;
    refusals = refuses (Some (command_of file edits)) t fault (of_file file edits t fault (by_parts refusal));
  }
    where
      by_parts : ((fault ≡ no_file) ⊎ IsLoadRefusal (len_of t file) fault.rule fault) → IsFileRefusal (len_of t file) fault
      by_parts (inl h) = inl h
      by_parts (inr h) = inr (inl h)

  wanted : Told s.files (λ files. IsOk (kind_of_file (get files file))) → Ended file edits s t o o Memory
  wanted passes = record {
    call = memory_call (command_of file edits) s t o touches a.calls.same (λ files e. may_want file edits files (passes files e));
    refusals = λ fault e. cc;
  }

  stopped_load : (end : FileStop) → LoadCall Packet s t file (Err end) → Ended file edits s t o o (ended_by end)
  stopped_load stop.Absent b = load_refused no_file b.told (λ e. b.missed refl) (inl refl)
  stopped_load (stop.Fault fault) b =
      let numbers = (b.refuses fault refl).numbers in
      load_refused fault b.told (λ e. absurd (not_missing (len_of t file) fault.rule fault numbers e)) (inr numbers)
  stopped_load stop.Device b = record { call = device_call (command_of file edits) s t o touches a.calls.same (b.device refl); refusals = λ fault e. cc }
  stopped_load stop.Memory b = wanted (λ files e. b.memory files e refl)

  -- the load stopped
  pub load_stopped : (end : FileStop) (status : Status) → load ≡ Err end → status ≡ ended_by end → Ended file edits s t o o status
  load_stopped end status is ends = subst (Ended file edits s t o o) (sym ends) (stopped_load end (subst (LoadCall Packet s t file) is a))

  module _ (kept : Kept) (load_is : load ≡ Ok kept) where
    held : LoadCall Packet s t file (Ok kept)
    held = subst (LoadCall Packet s t file) load_is a

    loaded : Told s.files (λ files. IsLoaded Packet (get files file) (Ok kept))
    loaded = held.told

    passes : Told s.files (λ files. IsOk (kind_of_file (get files file)))
    passes files e = ok_kind (kind_of_file (get files file)) (bytes_of files file) kept (held.told files e)

    lies : PayloadLies (len_of t file) kept.payload
    lies = subst (λ (n : ℕ). PayloadLies n kept.payload) (sym (ap (λ (x : Option ℕ). unwrap_or x 0) held.held.0)) held.held.1.payload

    refused_open : (fault : Fault) → IsOpened kept (Err fault) → Ended file edits s t o o (Refused fault)
    refused_open fault opens = record {
      call = refused_call (command_of file edits) s t o touches a.calls.same fault
          (λ files e. is_outcome file edits files (refused fault) (Err fault, (Ok kept, loaded files e, (Err fault, opens, refl)), refl)) (λ rule. absurd (opened_there kept fault opens rule));
      refusals = refuses (Some (command_of file edits)) t fault
          (of_file file edits t fault (joined_refuses (len_of t file) kept opens.0 fault lies opens.1 opens.2));
    }

    -- the packet is refused
    pub open_refused : (f fault : Fault) → IsOpened kept (Err f) → f ≡ fault → Ended file edits s t o o (Refused fault)
    open_refused f fault opens is = subst (λ (g : Fault). Ended file edits s t o o (Refused g)) is (refused_open f opens)

    pub open_wants : Ended file edits s t o o Memory
    open_wants = wanted passes

    module _ (opened : Opened) (opens : IsOpened kept (Ok opened)) (u : DeskState) (result : Result PlannedFile FileStop) (b : PlanCall (source edits) (is_inside edits) t u kept opened result) where
      same : SameFiles s u
      same = same_trans s t u a.calls.same (same_source (source edits) t u b.reads)

      spared : Spared Packet t u file
      spared = spared_source (source edits) t u file apart b.reads

      both : Touches (Some (command_of file edits)) s u
      both = touches_trans (Some (command_of file edits)) s t u (spares file edits s u (spared_trans Packet s t u file a.calls.same.files a.spared spared)) touches
          (touches_source (command_of file edits) (source edits) t u (reads_script file edits) (spares file edits t u spared) b.reads)

      at_read : (files : Files) → s.files ≡ Some files → t.files ≡ Some files
      at_read files e = a.calls.same.files ∙ e

      stopped_plan : (end : FileStop) → PlanCall (source edits) (is_inside edits) t u kept opened (Err end) → Ended file edits s u o o (ended_by end)
      stopped_plan stop.Absent d = absurd (d.stopped.there refl)
      stopped_plan (stop.Fault fault) d = record {
        call = refused_call (command_of file edits) s u o both same fault
            (λ files e. is_outcome file edits files (refused fault) (Err fault, (Ok kept, loaded files e, (Ok opened, opens, d.told files (at_read files e))), refl))
            (λ rule. rose_after s.misses t.misses u.misses a.calls.counts.misses (d.stopped.missed fault refl rule));
        refusals = refuses (Some (command_of file edits)) u fault (of_edit file edits u fault (d.refuses fault refl));
      }
      stopped_plan stop.Device d = record {
        call = device_call (command_of file edits) s u o both same (rose_after s.faults t.faults u.faults a.calls.counts.faults (d.stopped.device refl));
        refusals = λ fault e. cc;
      }
      stopped_plan stop.Memory d = record {
        call = memory_call (command_of file edits) s u o both same (λ files e. may_want file edits files (passes files e));
        refusals = λ fault e. cc;
      }

      -- SCRIPT, an edit or the plan stopped
      pub plan_stopped : (end : FileStop) (status : Status) → result ≡ Err end → status ≡ ended_by end → Ended file edits s u o o status
      plan_stopped end status is ends = subst (Ended file edits s u o o) (sym ends) (stopped_plan end (subst (PlanCall (source edits) (is_inside edits) t u kept opened) is b))

      module _ (planned : PlannedFile) (plan_is : result ≡ Ok planned) where
        call : PlanCall (source edits) (is_inside edits) t u kept opened (Ok planned)
        call = subst (PlanCall (source edits) (is_inside edits) t u kept opened) plan_is b

        -- what writing needs
        pub write_loaded : Told u.files (λ files. IsLoaded kept.need (get files file) (Ok kept))
        write_loaded files e =
            let now = loaded files (sym same.files ∙ e) in
            subst (λ n. IsLoaded n (get files file) (Ok kept)) (sym (loaded_need Packet (get files file) kept now)) now

        pub write_planned : IsScriptPlan kept (is_inside edits) planned.plan
        write_planned = let h = call.planned.1 in (opened.joined, h.edited, h.scripted, h.planned)

        pub write_known : get u.lens file ≡ Some kept.size
        write_known = known_source (source edits) t u file kept.size apart b.reads held.held.0

        pub write_lies : IsOfSize kept.size kept
        write_lies = held.held.1

        size_is : planned.size ≡ kept.size
        size_is = call.planned.2

        told : Told s.files (λ files. IsOutcome (Some (command_of file edits)) files (reported (change_of file edits) (bytes_of files file) (Ok planned.plan)))
        told files e =
            let of_run = call.told files (at_read files e) in
            is_outcome file edits files (reported (change_of file edits) (bytes_of files file) (Ok planned.plan))
            (Ok planned.plan, (Ok kept, loaded files e, (Ok opened, opens, followed_ok files of_run)), refl)
          where
            followed_ok : (files : Files) → IsPlanOf (is_inside edits) (edited_of (source edits) files opened.meaning) kept opened planned.plan
                → Followed (edited_of (source edits) files opened.meaning) (IsPlanned kept opened.joined (is_inside edits)) (Ok planned.plan)
            followed_ok files of_run =
                subst (λ (step : Result Edited Fault). Followed step (IsPlanned kept opened.joined (is_inside edits)) (Ok planned.plan)) (sym of_run.is) of_run.planned

        whole_size : Told s.files (λ files. kept.size ≡ length (bytes_of files file))
        whole_size files e = loaded_size Packet (get files file) kept (loaded files e)

        module _ (v : DeskState) (p : SinkState) where
          ready : ReadyFor (command_of file edits) (is_inside edits) (source edits) file s u kept opened planned.plan
          ready = record {
            same = same;
            before = both;
            loaded = loaded;
            opens = opens;
            of_run = λ files e. call.told files (at_read files e);
            step = call.planned.0;
            planned = call.planned.1;
          }

          sized : (end : Result (Unit {0}) Failed) → SendAll o p (report planned.size planned.plan) end → SendAll o p (report kept.size planned.plan) end
          sized end send = subst (λ (n : ℕ). SendAll o p (report n planned.plan) end) size_is send

          -- the change was made and the report sent
          pub edit_done : (unit : Unit {0}) → Finished u v o p kept planned file edits (Ok unit) → Ended file edits s v o p Done
          edit_done unit wrote = record {
            call = done (command_of file edits) s v o file planned.plan (change_of file edits) told
                (whole_by file edits s u v kept opened planned.plan ready unit wrote.0) kept.size whole_size p unit (sized (Ok unit) wrote.1);
            refusals = λ fault e. cc;
          }

          -- one of both failed
          pub edit_failed : (failed : Failed) → Finished u v o p kept planned file edits (Err failed) → Ended file edits s v o p Device
          edit_failed failed (inl (broken, same_sink)) = subst (λ (x : SinkState). Ended file edits s v o x Device) (sym same_sink) (record {
            call = change_failed (command_of file edits) s v o file planned.plan (change_of file edits) told (broken_by file edits s u v kept opened planned.plan ready failed broken);
            refusals = λ fault e. cc;
          })
          edit_failed failed (inr (made, send)) = record {
            call = report_failed (command_of file edits) s v o file planned.plan (change_of file edits) told
                (whole_by file edits s u v kept opened planned.plan ready tt made) kept.size whole_size p failed (sized (Err failed) send);
            refusals = λ fault e. cc;
          }
