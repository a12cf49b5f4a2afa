-- How a command ends that has changed no file, status by status.
use Rattle.std.proofs.Common.{◌≡◌, ◌⊎◌, ℕ, ◌≤◌, List, [], ◌++◌, refl, sym, ap, ◌∙◌, arith, Ok, Err, Some, None, inl, inr, subst, append-nil}
use Rattle.std.specs.declared.option.Option.{Option}
use Rattle.xmp_base.specs.Device.{DeskState, SinkState, Files, Rose, Told, SameFiles}
use Rattle.xmp_base.specs.declared.device.Failed.{Failed}
use Rattle.xmp_values.specs.declared.faults.Fault.{Fault}
use Rattle.xmp_values.specs.declared.rules.Rule.TheVariants.{NoFile}
use Rattle.xmp_cli.specs.declared.status.Status.{Status}
use Rattle.xmp_cli.specs.declared.status.Status.TheVariants.{Done, Findings, Usage, Refused, Device, Memory}
use Rattle.xmp_cli.specs.Commands.{Command, Patch}
use Rattle.xmp_cli.specs.Answer.{Change, puts, patches, Outcome, IsOutcome, refused, done, usage}
use Rattle.xmp_cli.specs.Access.{MayWant}
use Rattle.xmp_cli.specs.Left.{Left, AfterFailure, Patched}
use Rattle.xmp_cli.specs.Run.{RunCall, Touches, IsAnswer, Answers, Untouched, EndsBy, Writes, Complete}
use Rattle.xmp_cli.specs.Sending.{SendAll, SentSome}
use Rattle.xmp_cli.proofs.OneOutcome.{one_outcome}
use Rattle.xmp_cli.proofs.Touching.{touches_none}

pub patched_same : (command : Option Command) (files : Files) (s t : DeskState) → SameFiles s t → Patched command files s t
patched_same (Some (Patch file script)) files s t same = inl same
patched_same other files s t same = tt

pub left_same : (files : Files) (change : Option Change) (s t : DeskState) → t.files ≡ Some files → Left files change s t
left_same files None s t same = same
left_same files (Some (puts name bytes)) s t same = (files, same, inl refl)
left_same files (Some (patches name at bytes)) s t same = tt

pub sent_none : (o : SinkState) → Told o.sent (λ sent. o.sent ≡ Some (sent ++ []))
sent_none o sent told = told ∙ ap (λ (l : List ℕ). Some l) (sym (append-nil sent))

-- words that are no command
pub usage_call : (s : DeskState) (o : SinkState) → RunCall None s s o o Usage
usage_call s o = record {
  desk = touches_none None s;
  sink = omega arith;
  plan = refl;
  usage = (λ e. refl, λ e. refl);
  told = λ files e a. (usage, refl, record { same = refl; after = e; sent = sent_none o });
  ends = record { files = record { files = refl; wrote = refl }; sent = refl };
  patched = λ files e. tt;
  writes = λ files e is. tt;
}

module _ (c : Command) (s t : DeskState) (o p : SinkState) (touches : Touches (Some c) s t) (same : SameFiles s t) where
  -- what all ends have in common
  ends_call : (status : Status) → (status ≡ Usage → ⊥) → o.faults ≤ p.faults → p.plan ≡ o.plan
      → Told s.files (λ files. IsAnswer status → (outcome : Outcome) × IsOutcome (Some c) files outcome × Answers files t o p status outcome)
      → EndsBy (Some c) s t o p status → (status ≡ Done → (files : Files) → Writes (Some c) files t) → RunCall (Some c) s t o p status
  ends_call status command sink plan told ends writes = record {
    desk = touches;
    sink = sink;
    plan = plan;
    usage = (λ e. absurd (command e), λ e. cc);
    told = told;
    ends = ends;
    patched = λ files e. patched_same (Some c) files s t same;
    writes = λ files e is. writes is files;
  }

  -- a text was sent whole
  pub done_call : (text : List ℕ) (unit : Unit {0}) → SendAll o p text (Ok unit) → Told s.files (λ files. IsOutcome (Some c) files (done text)) → ((files : Files) → Writes (Some c) files t)
      → RunCall (Some c) s t o p Done
  done_call text unit send told writes = ends_call Done (λ e. cc) send.count send.plan
      (λ files e a. (done text, told files e, record { same = refl; after = same.files ∙ e; sent = send.sent })) tt (λ is. writes)

  part_of : (files : Files) (text : List ℕ) (outcome : Outcome) → t.files ≡ Some files → Rose s.faults t.faults ⊎ Rose o.faults p.faults → SentSome o p text
      → done text ≡ outcome → AfterFailure files outcome s t o p
  part_of files text outcome after rose some is = subst (λ (x : Outcome). AfterFailure files x s t o p) is (record { part = some; left = after; order = inr after })

  -- and here `out` failed
  pub failed_call : (text : List ℕ) (failed : Failed) → SendAll o p text (Err failed) → Told s.files (λ files. IsOutcome (Some c) files (done text)) → RunCall (Some c) s t o p Device
  failed_call text failed send told = ends_call Device (λ e. cc) send.count send.plan (λ files e a. absurd a)
      (record {
        rose = inr send.failed;
        after = λ files e outcome is. part_of files text outcome (same.files ∙ e) (inr send.failed) send.part (one_outcome (Some c) files (done text) outcome (told files e) is);
      })
      (λ is. absurd (let bad : Device ≡ Done = is in cc))

module _ (c : Command) (s t : DeskState) (o : SinkState) (touches : Touches (Some c) s t) (same : SameFiles s t) where
  untouched : Untouched s t o o
  untouched = record { files = same; sent = refl }

  pub refused_call : (fault : Fault) → Told s.files (λ files. IsOutcome (Some c) files (refused fault)) → (fault.rule ≡ NoFile → Rose s.misses t.misses) → RunCall (Some c) s t o o (Refused fault)
  refused_call fault told missed = ends_call c s t o o touches same (Refused fault) (λ e. cc) (omega arith) refl
      (λ files e a. (refused fault, told files e, record { same = refl; after = same.files ∙ e; sent = sent_none o }))
      (untouched, missed) (λ is. absurd (let bad : Refused fault ≡ Done = is in cc))

  pub memory_call : Told s.files (MayWant (Some c)) → RunCall (Some c) s t o o Memory
  memory_call wanted = ends_call c s t o o touches same Memory (λ e. cc) (omega arith) refl (λ files e a. absurd a) (untouched, wanted)
      (λ is. absurd (let bad : Memory ≡ Done = is in cc))

  pub device_call : Rose s.faults t.faults → RunCall (Some c) s t o o Device
  device_call rose = ends_call c s t o o touches same Device (λ e. cc) (omega arith) refl (λ files e a. absurd a)
      (record {
        rose = inl rose;
        after = λ files e outcome is. record {
          part = λ sent told. (0, sent_none o sent told);
          left = left_same files outcome.change s t (same.files ∙ e);
          order = inl (refl, rose);
        };
      })
      (λ is. absurd (let bad : Device ≡ Done = is in cc))

-- Where nothing was counted, the status is that of the one outcome, or memory was wanted.
module _ (command : Option Command) (s t : DeskState) (o p : SinkState) where
  answered : (status : Status) → RunCall command s t o p status → IsAnswer status → Complete command s t o p status
  answered status call is files e outcome other desk sink =
      let a = call.told files e is in
      inl (a.2.same ∙ ap (λ (x : Outcome). x.status) (one_outcome command files a.0 outcome a.1 other))

  pub complete : (status : Status) → RunCall command s t o p status → Complete command s t o p status
  complete Done call = answered Done call tt
  complete Findings call = answered Findings call tt
  complete Usage call = answered Usage call tt
  complete (Refused fault) call = answered (Refused fault) call tt
  complete Device call = λ files e outcome other desk sink. absurd (no_rise call.ends.rose desk sink)
    where
      no_rise : Rose s.faults t.faults ⊎ Rose o.faults p.faults → (Rose s.faults t.faults → ⊥) → (Rose o.faults p.faults → ⊥) → ⊥
      no_rise (inl rose) desk sink = desk rose
      no_rise (inr rose) desk sink = sink rose
  complete Memory call = λ files e outcome other desk sink. inr refl

  -- a failure was counted
  pub device_rose : (status : Status) → RunCall command s t o p status → status ≡ Device → Rose s.faults t.faults ⊎ Rose o.faults p.faults
  device_rose status call is = (subst (λ (x : Status). RunCall command s t o p x) is call).ends.rose
