-- SCRIPT's text, from what reading the file gave.
use Rattle.std.proofs.Common.{◌≡◌, ◌≢◌, ◌∙◌, ℕ, ◌<◌, ◌≤◌, Bool, true, false, List, [], length, Option, Some, None, Ok, Err, refl, sym, ap, subst, inl, inr, if◌then◌else◌}
use Rattle.std.specs.Prelude.{nat_lt}
use Rattle.std.specs.declared.result.Result.{Result}
use Rattle.std.specs.Option.{unwrap_or}
use Rattle.std.specs.FinMap.{get}
use Rattle.std.proofs.lemmas.Bool.{ltb-true, ltb-false}
use Rattle.xmp_base.specs.Device.{DeskState, Told, len_of}
use Rattle.xmp_base.specs.Whole.{ReadAll, read_answer}
use Rattle.xmp_base.specs.declared.whole.ReadStop.{ReadStop}
use Rattle.xmp_base.specs.declared.whole.ReadStop.TheVariants as reads
use Rattle.xmp_values.specs.declared.faults.Fault.{Fault}
use Rattle.xmp_values.specs.declared.rules.Rule.TheVariants.{NoFile}
use Rattle.xmp_values.specs.declared.stops.FileStop.{FileStop}
use Rattle.xmp_values.specs.declared.stops.FileStop.TheVariants as stop
use Rattle.xmp_values.specs.Stops.{Gives}
use Rattle.xmp_cli.specs.Edits.{Given, Lines, no_script, script_limit, over_script, script_within}
use Rattle.xmp_cli.specs.EditRefusals.{IsTextRefusal, IsTextOf}
use Rattle.xmp_cli.specs.EditSteps.{told_by, Stopped, TextCall}

-- what reading a file says of SCRIPT
abbrev pub read_as : Result (List ℕ) ReadStop → Result (List ℕ) FileStop
read_as (Ok bytes) = Ok bytes
read_as (Err reads.Absent) = Err (stop.Fault no_script)
read_as (Err (reads.TooLarge n)) = Err (stop.Fault (over_script n))
read_as (Err reads.Device) = Err stop.Device
read_as (Err reads.Memory) = Err stop.Memory

abbrev Within : List ℕ → Result (List ℕ) ReadStop → Type 0
Within bytes result = (length bytes ≤ script_limit → result ≡ Ok bytes) × (script_limit < length bytes → result ≡ Err (reads.TooLarge (length bytes)))

abbrev text_by : Bool → List ℕ → Result (List ℕ) Fault
text_by over bytes = if over then Err (over_script (length bytes)) else Ok bytes

some_gives : (over : Bool) (bytes : List ℕ) (result : Result (List ℕ) ReadStop) → nat_lt script_limit (length bytes) ≡ over → Within bytes result → Gives told_by (read_as result) (text_by over bytes)
some_gives true bytes result is h =
    subst (λ (r : Result (List ℕ) ReadStop). Gives told_by (read_as r) (text_by true bytes)) (sym (h.1 (ltb-true script_limit (length bytes) is))) refl
some_gives false bytes result is h =
    subst (λ (r : Result (List ℕ) ReadStop). Gives told_by (read_as r) (text_by false bytes)) (sym (h.0 (ltb-false script_limit (length bytes) is))) refl

file_gives : (file : Option (List ℕ)) (result : Result (List ℕ) ReadStop) → read_answer file script_limit result → Gives told_by (read_as result) (script_within file)
file_gives None result h = subst (λ (r : Result (List ℕ) ReadStop). Gives told_by (read_as r) (script_within None)) (sym h) refl
file_gives (Some bytes) result h = some_gives (nat_lt script_limit (length bytes)) bytes result refl h

answer_gives : (file : Option (List ℕ)) (result : Result (List ℕ) ReadStop) → (result ≢ Err reads.Device → result ≢ Err reads.Memory → read_answer file script_limit result) → Gives told_by (read_as result) (script_within file)
answer_gives file (Ok bytes) h = file_gives file (Ok bytes) (h (λ e. cc) (λ e. cc))
answer_gives file (Err reads.Absent) h = file_gives file (Err reads.Absent) (h (λ e. cc) (λ e. cc))
answer_gives file (Err (reads.TooLarge n)) h = file_gives file (Err (reads.TooLarge n)) (h (λ e. cc) (λ e. cc))
answer_gives file (Err reads.Device) h = tt
answer_gives file (Err reads.Memory) h = tt

len_is : (t : DeskState) (name : List ℕ) (n : ℕ) → get t.lens name ≡ Some n → len_of t name ≡ n
len_is t name n e = ap (λ (x : Option ℕ). unwrap_or x 0) e

same_stop : (f g : Fault) → (let r : Result (List ℕ) FileStop = Err (stop.Fault f) in r) ≡ Err (stop.Fault g) → f ≡ g
same_stop f g e = cc

module _ (script : List ℕ) (s t : DeskState) where
  stops : (result : Result (List ℕ) ReadStop) → ReadAll s t script script_limit result → Stopped s t (read_as result)
  stops (Ok bytes) a = record { there = λ e. cc; missed = λ fault e rule. absurd (cc e); device = λ e. absurd (cc e) }
  stops (Err reads.Absent) a = record { there = λ e. cc; missed = λ fault e rule. a.absent refl; device = λ e. absurd (cc e) }
  stops (Err (reads.TooLarge n)) a = record {
    there = λ e. cc;
    missed = λ fault e rule. absurd (let is : over_script n ≡ fault = same_stop (over_script n) fault e in let bad : (over_script n).rule ≡ NoFile = ap (λ (f : Fault). f.rule) is ∙ rule in cc);
    device = λ e. absurd (cc e);
  }
  stops (Err reads.Device) a = record { there = λ e. cc; missed = λ fault e rule. absurd (cc e); device = λ e. a.device refl }
  stops (Err reads.Memory) a = record { there = λ e. cc; missed = λ fault e rule. absurd (cc e); device = λ e. absurd (cc e) }

  refuses : (result : Result (List ℕ) ReadStop) → ReadAll s t script script_limit result → (fault : Fault) → read_as result ≡ Err (stop.Fault fault) → IsTextRefusal (Lines script) t fault
  refuses (Ok bytes) a fault e = absurd (cc e)
  refuses (Err reads.Absent) a fault e = inl (sym (same_stop no_script fault e))
  refuses (Err (reads.TooLarge n)) a fault e =
      let large = a.large n refl in
      let is : len_of t script ≡ n = len_is t script n large.0 in
      inr (subst (λ (k : ℕ). script_limit < k) (sym is) large.1, sym (same_stop (over_script n) fault e) ∙ ap over_script (sym is))
  refuses (Err reads.Device) a fault e = absurd (cc e)
  refuses (Err reads.Memory) a fault e = absurd (cc e)

  sized : (bytes : List ℕ) → ReadAll s t script script_limit (Ok bytes) → IsTextOf (Lines script) t bytes
  sized bytes a = (sym (len_is t script (length bytes) a.known.0), a.known.1)

  told : (result : Result (List ℕ) ReadStop) → ReadAll s t script script_limit result → Told s.files (λ files. Gives told_by (read_as result) (script_within (get files script)))
  told result a files e = answer_gives (get files script) result (a.told files e)

  call : (result : Result (List ℕ) ReadStop) → ReadAll s t script script_limit result → TextCall (Lines script) s t (read_as result)
  call (Ok bytes) a = record { reads = (a.calls, a.others); told = told (Ok bytes) a; stopped = stops (Ok bytes) a; refuses = refuses (Ok bytes) a; text = sized bytes a }
  call (Err reads.Absent) a = record { reads = (a.calls, a.others); told = told (Err reads.Absent) a; stopped = stops (Err reads.Absent) a; refuses = refuses (Err reads.Absent) a; text = tt }
  call (Err (reads.TooLarge n)) a =
      record { reads = (a.calls, a.others); told = told (Err (reads.TooLarge n)) a; stopped = stops (Err (reads.TooLarge n)) a; refuses = refuses (Err (reads.TooLarge n)) a; text = tt }
  call (Err reads.Device) a = record { reads = (a.calls, a.others); told = told (Err reads.Device) a; stopped = stops (Err reads.Device) a; refuses = refuses (Err reads.Device) a; text = tt }
  call (Err reads.Memory) a = record { reads = (a.calls, a.others); told = told (Err reads.Memory) a; stopped = stops (Err reads.Memory) a; refuses = refuses (Err reads.Memory) a; text = tt }

  -- SCRIPT was read
  pub text_read : (read : Result (List ℕ) ReadStop) (result : Result (List ℕ) FileStop) → ReadAll s t script script_limit read → result ≡ read_as read → TextCall (Lines script) s t result
  text_read read result a is = subst (TextCall (Lines script) s t) (sym is) (call read a)

-- `set` reads none
pub text_none : (path value : List ℕ) (s : DeskState) → TextCall (Given path value) s s (Ok [])
text_none path value s = record {
  reads = refl;
  told = λ files e. refl;
  stopped = record { there = λ e. cc; missed = λ fault e rule. absurd (cc e); device = λ e. absurd (cc e) };
  refuses = λ fault e. absurd (cc e);
  text = refl;
}
