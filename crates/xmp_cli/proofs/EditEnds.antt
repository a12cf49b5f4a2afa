-- How a command ends that has made its change, or failed in it: what was read came before, and the report comes after.
use Rattle.std.proofs.Common.{◌≡◌, ℕ, List, ◌++◌, length, Option, Some, None, Ok, Err, refl, ap, subst, inl, inr, arith}
use Rattle.xmp_base.specs.Device.{DeskState, SinkState, Files, Rose, Told, bytes_of}
use Rattle.xmp_base.specs.declared.device.Failed.{Failed}
use Rattle.xmp_files.specs.Planning.{Plan}
use Rattle.xmp_cli.specs.declared.status.Status.TheVariants.{Done, Usage, Device}
use Rattle.xmp_cli.specs.Commands.{Command}
use Rattle.xmp_cli.specs.Reports.{report}
use Rattle.xmp_cli.specs.Answer.{Change, Outcome, IsOutcome, reported, changed}
use Rattle.xmp_cli.specs.Left.{Left, AfterFailure, Patched}
use Rattle.xmp_cli.specs.Run.{RunCall, Touches, Writes}
use Rattle.xmp_cli.specs.Sending.{SendAll, SentSome}
use Rattle.xmp_cli.proofs.OneOutcome.{one_outcome}
use Rattle.xmp_cli.proofs.Ends.{sent_none}

-- what a failed change leaves of the desk
pub record Broken (c : Command) (s u : DeskState) (change : Files → Option Change) : Type 0 where
  pub touches : Touches (Some c) s u
  pub patched : Told s.files (λ files. Patched (Some c) files s u)
  pub left : Told s.files (λ files. Left files (change files) s u)
  pub rose : Rose s.faults u.faults

-- and a change that was made
pub record Whole (c : Command) (s u : DeskState) (change : Files → Option Change) : Type 0 where
  pub touches : Touches (Some c) s u
  pub patched : Told s.files (λ files. Patched (Some c) files s u)
  pub left : Told s.files (λ files. Left files (change files) s u)
  pub after : Told s.files (λ files. u.files ≡ Some (changed files (change files)))
  pub writes : Told s.files (λ files. Writes (Some c) files u)

module _ (c : Command) (s u : DeskState) (o : SinkState) (file : List ℕ) (plan : Plan) (change : List ℕ → Plan → Option Change)
    (told : Told s.files (λ files. IsOutcome (Some c) files (reported change (bytes_of files file) (Ok plan)))) where
  abbrev outcome_over : Files → Outcome
  outcome_over files = reported change (bytes_of files file) (Ok plan)

  is_one : (files : Files) (outcome : Outcome) → s.files ≡ Some files → IsOutcome (Some c) files outcome → outcome_over files ≡ outcome
  is_one files outcome e is = one_outcome (Some c) files (outcome_over files) outcome (told files e) is

  -- the change failed
  pub change_failed : Broken c s u (λ files. change (bytes_of files file) plan) → RunCall (Some c) s u o o Device
  change_failed a = record {
    desk = a.touches;
    sink = omega arith;
    plan = refl;
    usage = (λ e. absurd (let bad : Device ≡ Usage = e in cc), λ e. absurd (let bad : Some c ≡ None = e in cc));
    told = λ files e is. absurd is;
    ends = record {
      rose = inl a.rose;
      after = λ files e outcome is. subst (λ (x : Outcome). AfterFailure files x s u o o) (is_one files outcome e is) (record {
        part = λ sent of. (0, sent_none o sent of);
        left = a.left files e;
        order = inl (refl, a.rose);
      });
    };
    patched = a.patched;
    writes = λ files e is. absurd (let bad : Device ≡ Done = is in cc);
  }

  module _ (a : Whole c s u (λ files. change (bytes_of files file) plan)) (size : ℕ) (size_is : Told s.files (λ files. size ≡ length (bytes_of files file))) (p : SinkState) where
    report_is : (files : Files) → s.files ≡ Some files → report size plan ≡ report (length (bytes_of files file)) plan
    report_is files e = ap (λ (n : ℕ). report n plan) (size_is files e)

    -- the change was made, and the report wasn't sent whole
    pub report_failed : (failed : Failed) → SendAll o p (report size plan) (Err failed) → RunCall (Some c) s u o p Device
    report_failed failed send = record {
      desk = a.touches;
      sink = send.count;
      plan = send.plan;
      usage = (λ e. absurd (let bad : Device ≡ Usage = e in cc), λ e. absurd (let bad : Some c ≡ None = e in cc));
      told = λ files e is. absurd is;
      ends = record {
        rose = inr send.failed;
        after = λ files e outcome is. subst (λ (x : Outcome). AfterFailure files x s u o p) (is_one files outcome e is) (record {
          part = subst (λ (l : List ℕ). SentSome o p l) (report_is files e) send.part;
          left = a.left files e;
          order = inr (a.after files e);
        });
      };
      patched = a.patched;
      writes = λ files e is. absurd (let bad : Device ≡ Done = is in cc);
    }

    -- both were done
    pub done : (sent : Unit {0}) → SendAll o p (report size plan) (Ok sent) → RunCall (Some c) s u o p Done
    done sent send = record {
      desk = a.touches;
      sink = send.count;
      plan = send.plan;
      usage = (λ e. absurd (let bad : Done ≡ Usage = e in cc), λ e. absurd (let bad : Some c ≡ None = e in cc));
      told = λ files e is. (
        outcome_over files,
        told files e,
        record {
          same = refl;
          after = a.after files e;
          sent = subst (λ (l : List ℕ). Told o.sent (λ x. p.sent ≡ Some (x ++ l))) (report_is files e) send.sent;
        },
      );
      ends = tt;
      patched = a.patched;
      writes = λ files e is. a.writes files e;
    }
