use Rattle.std.proofs.Common.{◌∙◌, sym}
use Rattle.xmp_edit.specs.Actions.{change_of, makes}
use Rattle.xmp_edit.specs.Edits.{at_place}
use Rattle.xmp_edit.proofs.Refills.{item_refilled}
use Rattle.xmp_edit.proofs.properties.item_at.Goals as goal

pub returns : goal.returns
returns c =
    item_refilled (at_place c.args.rest.now (change_of c.args.action.now) (makes c.args.action.now)) c.args.items c.take.new.self c.args.at c.in-Some.old c.in_ok-given-in-Some.given c.refill.result
    (sym c.in-Some.is ∙ c.take.ensures.value) c.take.ensures.rest c.in_ok-given-in-Some.ensures c.refill.ensures
