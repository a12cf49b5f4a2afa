use Rattle.std.proofs.Common.{◌∙◌, sym}
use Rattle.xmp_edit.specs.Actions.{change_of, makes}
use Rattle.xmp_edit.specs.Edits.{at_place}
use Rattle.xmp_edit.proofs.Refills.{member_refilled, item_refilled}
use Rattle.xmp_edit.proofs.places.+edit.Goals as goal

pub member_at-returns : goal.member_at-returns
member_at-returns t c =
    member_refilled (at_place c.args.rest.now (change_of c.args.action.now) (makes c.args.action.now)) c.args.members c.take_value.new.members c.args.at c.in-Some.old c.in_ok-given-in-Some.given c.refill.result
    (sym c.in-Some.is ∙ c.take_value.ensures.value) c.take_value.ensures.rest c.in_ok-given-in-Some.ensures c.refill.ensures

pub item_at-returns : goal.item_at-returns
item_at-returns t c =
    item_refilled (at_place c.args.rest.now (change_of c.args.action.now) (makes c.args.action.now)) c.args.items c.take_item.new.items c.args.at c.in-Some.old c.in_ok-given-in-Some.given c.refill_item.result
    (sym c.in-Some.is ∙ c.take_item.ensures.value) c.take_item.ensures.rest c.in_ok-given-in-Some.ensures c.refill_item.ensures
