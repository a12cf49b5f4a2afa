-- The exits of a command that shows a view of a file, from what its calls returned.
use Rattle.std.proofs.Common.{◌≡◌, ◌⊎◌, ℕ, true, false, List, refl, sym, ap, Ok, Err, Some, inl, inr, subst, IsOk}
use Rattle.std.specs.declared.option.Option.{Option}
use Rattle.std.specs.declared.result.Result.{Result}
use Rattle.std.specs.FinMap.{get}
use Rattle.std.specs.Option.{unwrap_or}
use Rattle.xmp_base.specs.Device.{DeskState, SinkState, Files, Told, Rose, bytes_of, len_of}
use Rattle.xmp_base.specs.declared.device.Failed.{Failed}
use Rattle.xmp_values.specs.declared.faults.Fault.{Fault}
use Rattle.xmp_values.specs.declared.rules.Rule.{Rule}
use Rattle.xmp_values.specs.declared.rules.Rule.TheVariants.{NoFile}
use Rattle.xmp_values.specs.declared.stops.FaultStop.{FaultStop}
use Rattle.xmp_values.specs.declared.stops.FaultStop.TheVariants as stop
use Rattle.xmp_values.specs.declared.stops.FileStop.{FileStop}
use Rattle.xmp_values.specs.declared.stops.FileStop.TheVariants as load_stop
use Rattle.jpeg_regions.specs.Jpeg.{FaultIn, no_tail, bad_marker, bad_length, truncated, two_packets}
use Rattle.xmp_files.specs.declared.kinds.Kind.{Kind}
use Rattle.xmp_files.specs.declared.held.Need.TheVariants.{Packet}
use Rattle.xmp_files.specs.declared.opening.Opened.{Opened}
use Rattle.xmp_files.specs.Faults.{no_file}
use Rattle.xmp_files.specs.Stages.{Followed}
use Rattle.xmp_files.specs.Keeping.{Kept}
use Rattle.xmp_files.specs.Loading.{kind_of_file, IsKept, IsLoaded}
use Rattle.xmp_files.specs.Loads.{LoadCall, IsLoadRefusal, PayloadLies}
use Rattle.xmp_files.specs.Opening.{Holds, IsOpened}
use Rattle.xmp_files.specs.Sparing.{Spared}
use Rattle.xmp_cli.specs.declared.status.Status.{Status}
use Rattle.xmp_cli.specs.declared.status.Status.TheVariants.{Done, Refused, Device, Memory}
use Rattle.xmp_cli.specs.declared.views.View.{View}
use Rattle.xmp_cli.specs.declared.views.View.TheVariants as views
use Rattle.xmp_cli.specs.Answer.{Outcome, IsOutcome, IsShown, refused, shown}
use Rattle.xmp_cli.specs.Access.{MayRead, MayWant}
use Rattle.xmp_cli.specs.Run.{RunCall, Refuses, Touches, SparesPictures, Writes, IsFileRefusal}
use Rattle.xmp_cli.specs.Sending.{SendAll}
use Rattle.xmp_cli.specs.Steps.{view_of, shows, Shows, IsViewed}
use Rattle.xmp_cli.proofs.Ends.{done_call, failed_call, refused_call, memory_call, device_call}
use Rattle.xmp_cli.proofs.Refusals.{refuses, file_refuses, step_refuses}
use Rattle.xmp_cli.proofs.Touching.{touches_load}

-- What `show` promises at an exit.
pub record Ended (file : List ℕ) (view : View) (s t : DeskState) (o p : SinkState) (status : Status) : Type 0 where
  pub call : RunCall (Some (shows file view)) s t o p status
  pub refusals : Refuses (Some (shows file view)) t status

-- what the words of the command say, by the view

is_outcome : (file : List ℕ) (view : View) (files : Files) (outcome : Outcome) → IsShown (view_of view) (get files file) outcome → IsOutcome (Some (shows file view)) files outcome
is_outcome file (views.Value path) files outcome h = h
is_outcome file views.Tree files outcome h = h

may_read : (file : List ℕ) (view : View) → MayRead (Some (shows file view)) file
may_read file (views.Value path) = inl refl
may_read file views.Tree = inl refl

spares : (file : List ℕ) (view : View) (s t : DeskState) → Spared Packet s t file → SparesPictures (Some (shows file view)) s t
spares file (views.Value path) s t h = h
spares file views.Tree s t h = h

may_want : (file : List ℕ) (view : View) (files : Files) → IsOk (kind_of_file (get files file)) → MayWant (Some (shows file view)) files
may_want file (views.Value path) files h = (tt, h)
may_want file views.Tree files h = (tt, h)

-- a view writes nothing
writes_none : (file : List ℕ) (view : View) (files : Files) (t : DeskState) → Writes (Some (shows file view)) files t
writes_none file (views.Value path) files t = λ kept edited plan plans. absurd plans
writes_none file views.Tree files t = λ kept edited plan plans. absurd plans

fault_there : (size place : ℕ) (rule : Rule) → FaultIn size place rule → rule ≡ NoFile → ⊥
fault_there size place rule (no_tail h) = λ e. cc e
fault_there size place rule (bad_marker h) = λ e. cc e
fault_there size place rule (bad_length h) = λ e. cc e
fault_there size place rule (truncated h) = λ e. cc e
fault_there size place rule (two_packets h) = λ e. cc e

never_missing : (size : ℕ) (fault : Fault) → IsLoadRefusal size NoFile fault → ⊥
never_missing size fault (inl cut) = fault_there size fault.place.at NoFile cut.0 refl
never_missing size fault (inr walk) = let no : false ≡ true = walk.0 in cc

pub not_missing : (size : ℕ) (rule : Rule) (fault : Fault) → IsLoadRefusal size rule fault → rule ≡ NoFile → ⊥
not_missing size rule fault h e = never_missing size fault (subst (λ (r : Rule). IsLoadRefusal size r fault) e h)

-- what was kept has a kind
pub ok_kind : (by : Result Kind Fault) (bytes : List ℕ) (kept : Kept) → Followed by (IsKept Packet bytes) (Ok kept) → IsOk by
ok_kind (Ok kind) bytes kept h = refl
ok_kind (Err fault) bytes kept h = absurd (let bad : Ok kept ≡ Err fault = h in cc)

module _ (file : List ℕ) (view : View) (s t : DeskState) (o : SinkState) (load : Result Kept FileStop) (a : LoadCall Packet s t file load) where
  touches : Touches (Some (shows file view)) s t
  touches = touches_load (Some (shows file view)) s t file load (may_read file view) (spares file view s t) a

  wanted : Told s.files (λ files. IsOk (kind_of_file (get files file))) → Ended file view s t o o Memory
  wanted passes = record {
    call = memory_call (shows file view) s t o touches a.calls.same (λ files e. may_want file view files (passes files e));
    refusals = λ fault e. cc;
  }

  -- the load refused
  load_end : (fault : Fault) → Told s.files (λ files. IsLoaded Packet (get files file) (Err fault)) → (fault.rule ≡ NoFile → Rose s.misses t.misses)
      → ((fault ≡ no_file) ⊎ IsLoadRefusal (len_of t file) fault.rule fault) → Ended file view s t o o (Refused fault)
  load_end fault told missed refusal = record {
    call = refused_call (shows file view) s t o touches a.calls.same fault
        (λ files e. is_outcome file view files (refused fault) (Err fault, (Err fault, told files e, refl), refl)) missed;
    refusals = refuses (Some (shows file view)) t fault (file_refuses file view t fault (by_parts refusal));
  }
    where
      by_parts : ((fault ≡ no_file) ⊎ IsLoadRefusal (len_of t file) fault.rule fault) → IsFileRefusal (len_of t file) fault
      by_parts (inl h) = inl h
      by_parts (inr h) = inr (inl h)

  pub absent : (fault : Fault) → load ≡ Err load_stop.Absent → fault ≡ no_file → Ended file view s t o o (Refused fault)
  absent fault is same =
      let b : LoadCall Packet s t file (Err load_stop.Absent) = subst (LoadCall Packet s t file) is a in
      subst (λ (f : Fault). Ended file view s t o o (Refused f)) (sym same) (load_end no_file b.told (λ e. b.missed refl) (inl refl))

  pub load_refused : (f fault : Fault) → load ≡ Err (load_stop.Fault f) → f ≡ fault → Ended file view s t o o (Refused fault)
  load_refused f fault is same =
      let b : LoadCall Packet s t file (Err (load_stop.Fault f)) = subst (LoadCall Packet s t file) is a in
      let numbers = (b.refuses f refl).numbers in
      subst (λ (g : Fault). Ended file view s t o o (Refused g)) same
      (load_end f b.told (λ e. absurd (not_missing (len_of t file) f.rule f numbers e)) (inr numbers))

  pub load_failed : load ≡ Err load_stop.Device → Ended file view s t o o Device
  load_failed is = record {
    call = device_call (shows file view) s t o touches a.calls.same (a.device is);
    refusals = λ fault e. cc;
  }

  pub load_wants : load ≡ Err load_stop.Memory → Ended file view s t o o Memory
  load_wants is = wanted (λ files e. a.memory files e is)

  module _ (kept : Kept) (load_is : load ≡ Ok kept) where
    held : LoadCall Packet s t file (Ok kept)
    held = subst (LoadCall Packet s t file) load_is a

    -- a step of what is kept is one of the file
    holds : (step : Result Opened Fault) → IsOpened kept step → Told s.files (λ files. Holds (get files file) step)
    holds step opens files e = (Ok kept, held.told files e, opens)

    shown_as : (given : Result (List ℕ) Fault) → Shows (view_of view) kept given → Told s.files (λ files. IsOutcome (Some (shows file view)) files (shown given))
    shown_as given v files e = is_outcome file view files (shown given) (v.0, holds v.0 v.1 files e, ap shown (sym v.2))

    lies : PayloadLies (len_of t file) kept.payload
    lies = subst (λ (n : ℕ). PayloadLies n kept.payload) (sym (ap (λ (x : Option ℕ). unwrap_or x 0) held.held.0)) held.held.1.payload

    pub view_wants : Ended file view s t o o Memory
    view_wants = wanted (λ files e. ok_kind (kind_of_file (get files file)) (bytes_of files file) kept (held.told files e))

    module _ (result : Result (List ℕ) FaultStop) (viewed : IsViewed (view_of view) result kept) where
      pub view_refused : (fault : Fault) → result ≡ Err (stop.Fault fault) → Ended file view s t o o (Refused fault)
      view_refused fault is =
          let v : Shows (view_of view) kept (Err fault) = subst (λ (r : Result (List ℕ) FaultStop). IsViewed (view_of view) r kept) is viewed in
          let refusal = step_refuses file view t kept v.0 fault lies v.1 v.2 in
          record {
            call = refused_call (shows file view) s t o touches a.calls.same fault (shown_as (Err fault) v) (λ rule. absurd (refusal.1 rule));
            refusals = refuses (Some (shows file view)) t fault refusal.0;
          }

      module _ (p : SinkState) (text : List ℕ) (is : result ≡ Ok text) (end : Result (Unit {0}) Failed) (send : SendAll o p text end) where
        by_view : Shows (view_of view) kept (Ok text)
        by_view = subst (λ (r : Result (List ℕ) FaultStop). IsViewed (view_of view) r kept) is viewed

        pub view_sent : (unit : Unit {0}) → end ≡ Ok unit → Ended file view s t o p Done
        view_sent unit e = record {
          call = done_call (shows file view) s t o p touches a.calls.same text unit (subst (SendAll o p text) e send) (shown_as (Ok text) by_view)
              (λ files. writes_none file view files t);
          refusals = λ fault e. cc;
        }

        pub view_failed : (failed : Failed) → end ≡ Err failed → Ended file view s t o p Device
        view_failed failed e = record {
          call = failed_call (shows file view) s t o p touches a.calls.same text failed (subst (SendAll o p text) e send) (shown_as (Ok text) by_view);
          refusals = λ fault e. cc;
        }
