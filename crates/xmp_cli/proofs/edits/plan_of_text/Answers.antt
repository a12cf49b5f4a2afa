use Rattle.xmp_cli.specs.EditSteps.{source, is_inside}
use Rattle.xmp_cli.proofs.EditPlans.{script_stopped, edit_stopped, planned_from}
use Rattle.xmp_cli.proofs.edits.plan_of_text.Goals as goal

pub returns-in-Err : goal.returns-in-Err
returns-in-Err c =
    script_stopped (source c.args.edits) (is_inside c.args.edits) c.args.text.now c.args.held.now c.args.opened.now c.in-Err.stop c.part_of-part.result c.within.result c.part_of-part.ensures c.within.ensures
    c.in-Err.ensures

pub returns-in-Ok-edited : goal.returns-in-Ok-edited
returns-in-Ok-edited c =
    planned_from (source c.args.edits) (is_inside c.args.edits) c.args.text.now c.args.held.now c.args.opened.now c.in-Ok.script c.in-Ok.ensures c.in-Ok-edited.tree c.in-Ok-edited.ensures c.hints.result.now c.is_inside.result c.plan.result
    c.hints.ensures c.is_inside.ensures c.plan.ensures.step c.plan.ensures.written

pub returns : goal.returns
returns c =
    edit_stopped (source c.args.edits) (is_inside c.args.edits) c.args.text.now c.args.held.now c.args.opened.now c.in-Ok.script c.in-Ok.ensures c.in-Err-edited.stop c.part_of-part.result c.within-in-Err-edited.result
    c.part_of-part.ensures c.within-in-Err-edited.ensures c.in-Err-edited.ensures
