use Rattle.std.proofs.Common.{◌∙◌, Some, ap, sym}
use Rattle.xmp_tree.specs.declared.nested.Shape.{Simple}
use Rattle.xmp_edit.specs.Actions.{set_leaf}
use Rattle.xmp_edit.proofs.Refills.{item_refilled}
use Rattle.xmp_edit.proofs.changing.item_said.Goals as goal

pub returns : goal.returns
returns c =
    item_refilled (set_leaf (Simple c.args.text.now)) c.args.items c.take_item.new.items c.args.at c.in-Some.old c.in_ok-given-in-Some.given c.refill_item.result
    (sym c.in-Some.is ∙ c.take_item.ensures.value) c.take_item.ensures.rest
    (ap (λ x. set_leaf (Simple x) (Some c.in-Some.old)) (sym c.in_ok-copy_text-in-Some.ensures) ∙ c.in_ok-given-in-Some.ensures) c.refill_item.ensures
