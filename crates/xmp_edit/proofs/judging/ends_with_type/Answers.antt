use Rattle.std.proofs.Common.{◌∙◌, Bool, false, refl, ap}
use Rattle.std.specs.List.{fold}
use Rattle.xmp_tree.specs.Wf.{type_name}
use Rattle.xmp_paths.specs.declared.step.Step.TheVariants.{Field}
use Rattle.xmp_edit.specs.Judging.{is_qualifier}
use Rattle.xmp_edit.proofs.Judged.{fold_last}
use Rattle.xmp_edit.proofs.judging.ends_with_type.Goals as goal

pub loop-step-init : goal.loop-step-init
loop-step-init c =
    let init : Bool = false in
    ap (fold (λ _ s. is_qualifier type_name s) init) c.steps-step-items.ensures.steps
    ∙ fold_last (is_qualifier type_name) init (Field c.args.path.now.name) c.args.path.now.steps refl
