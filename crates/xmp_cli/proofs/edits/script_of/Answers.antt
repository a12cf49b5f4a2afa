use Rattle.std.proofs.Common.{subst, sym, inl, inr}
use Rattle.xmp_values.specs.Stops.{place_of, Gives}
use Rattle.xmp_rdf.specs.declared.meanings.Meaning.{Meaning}
use Rattle.xmp_edit.specs.ScriptOf.{script_of}
use Rattle.xmp_cli.specs.Edits.{edits_from}
use Rattle.xmp_cli.specs.EditSteps.{source}
use Rattle.xmp_cli.specs.declared.edits.Edits.{Edits}
use Rattle.xmp_cli.proofs.edits.script_of.Goals as goal

-- the hints are those of the meaning
pub returns-in-Apply : goal.returns-in-Apply
returns-in-Apply c =
    let read = subst (λ (m : Meaning). Gives place_of c.read.result (script_of m.hints c.args.text.now)) c.meaning.view_is c.read.ensures in
    elim c.in-Apply.is [
      | inl (out, script, is) ↦ subst (λ (e : Edits). Gives place_of c.read.result (edits_from (source e) c.args.text.now c.args.meaning.now.hints)) (sym is) read
      | inr (script, is) ↦ subst (λ (e : Edits). Gives place_of c.read.result (edits_from (source e) c.args.text.now c.args.meaning.now.hints)) (sym is) read
    ]
