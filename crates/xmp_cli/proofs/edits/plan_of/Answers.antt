use Rattle.std.proofs.Common.{subst, List, ℕ, Err}
use Rattle.xmp_cli.specs.EditSteps.{source, is_inside, FromText}
use Rattle.xmp_cli.proofs.EditPlans.{plan_stopped}
use Rattle.xmp_cli.proofs.edits.plan_of.Goals as goal

pub returns : goal.returns
returns g c = record {
  call = plan_stopped (source c.args.edits) (is_inside c.args.edits) (g.D.Desk.state c.args.desk.now) (g.D.Desk.state c.script_text.new.desk) c.args.held.now c.args.opened.now c.in_ok-text.text c.in_ok-text.ensures.call
      c.in-Err.stop c.from.result c.from.ensures (subst (λ (l : List ℕ). FromText (source c.args.edits) (is_inside c.args.edits) l c.args.held.now c.args.opened.now (Err c.in-Err.stop)) c.as_slice.ensures c.in-Err.ensures);
}
