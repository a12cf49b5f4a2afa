use Rattle.std.proofs.Common.{subst}
use Rattle.xmp_cli.specs.EditSteps.{is_inside, IsScriptPlan}
use Rattle.xmp_cli.specs.declared.edits.Edits.{Edits}
use Rattle.xmp_cli.proofs.editing.place.Goals as goal

pub patch-requires-clause-planned : goal.patch-requires-clause-planned
patch-requires-clause-planned g c = subst (λ (e : Edits). IsScriptPlan c.args.held.now (is_inside e) c.args.planned.now.plan) c.in-Patch.is c.requires.planned
