-- The commands that aren't built yet, which are refused before anything is read.
use Rattle.std.proofs.Common.{◌≡◌, refl, sym, ap, ◌∙◌, Some, subst}
use Rattle.std.specs.Option.{option_map}
use Rattle.std.specs.declared.option.Option.{Option}
use Rattle.xmp_base.specs.Device.{DeskState, SinkState, Files}
use Rattle.xmp_values.specs.declared.faults.Fault.{Fault}
use Rattle.xmp_values.specs.declared.rules.Rule.TheVariants.{NoFile, NotBuilt}
use Rattle.xmp_files.specs.Faults.{not_built}
use Rattle.xmp_cli.specs.declared.status.Status.TheVariants.{Refused}
use Rattle.xmp_cli.specs.Commands.{Command, Get, Tree, Set, Apply, Patch}
use Rattle.xmp_cli.specs.declared.commands.Command.{Command as Parsed}
use Rattle.xmp_cli.specs.Meant.{meant}
use Rattle.xmp_cli.specs.Answer.{IsOutcome, refused}
use Rattle.xmp_cli.specs.Access.{IsBuilt}
use Rattle.xmp_cli.specs.Run.{RunCall, Refuses, IsRefusal}
use Rattle.xmp_cli.proofs.Ends.{refused_call}
use Rattle.xmp_cli.proofs.Refusals.{refuses}
use Rattle.xmp_cli.proofs.Touching.{touches_none}

is_refused : (command : Command) → (IsBuilt command → ⊥) → (files : Files) → IsOutcome (Some command) files (refused not_built)
is_refused (Get file path) h files = absurd (h tt)
is_refused (Tree file) h files = absurd (h tt)
is_refused (Set file out path value) h files = absurd (h tt)
is_refused (Apply file out script) h files = absurd (h tt)
is_refused (Patch file script) h files = absurd (h tt)
is_refused other h files = refl

has_refusal : (command : Command) (t : DeskState) → (IsBuilt command → ⊥) → IsRefusal (Some command) t not_built
has_refusal (Get file path) t h = absurd (h tt)
has_refusal (Tree file) t h = absurd (h tt)
has_refusal (Set file out path value) t h = absurd (h tt)
has_refusal (Apply file out script) t h = absurd (h tt)
has_refusal (Patch file script) t h = absurd (h tt)
has_refusal other t h = refl

-- a run of one
pub record Unbuilt (command : Option Command) (s : DeskState) (o : SinkState) (fault : Fault) : Type 0 where
  pub call : RunCall command s s o o (Refused fault)
  pub refusals : Refuses command s (Refused fault)

pub unbuilt : (command : Command) → (IsBuilt command → ⊥) → (s : DeskState) (o : SinkState) (fault : Fault) → fault ≡ not_built → Unbuilt (Some command) s o fault
unbuilt command h s o fault is = subst (Unbuilt (Some command) s o) (sym is)
    (record {
      call = refused_call command s s o (touches_none (Some command) s) (record { files = refl; wrote = refl }) not_built (λ files e. is_refused command h files)
          (λ rule. absurd (let bad : NotBuilt ≡ NoFile = rule in cc));
      refusals = refuses (Some command) s not_built (has_refusal command s h);
    })

-- the command that the words name, from what was parsed
pub named : (parsed : Option Parsed) (inside p : Parsed) (command : Option Command) → option_map meant parsed ≡ command → parsed ≡ Some inside → inside ≡ p → Some (meant p) ≡ command
named parsed inside p command e is same = sym (ap (option_map meant) (is ∙ ap (λ (x : Parsed). let o : Option Parsed = Some x in o) same)) ∙ e
