use Rattle.std.proofs.Common.{◌&&◌}
use Rattle.xmp_paths.specs.Paths.{is_end}
use Rattle.xmp_edit.specs.Actions.{change_of, makes}
use Rattle.xmp_edit.specs.Edits.{at_place}
use Rattle.xmp_edit.specs.Slots.{present}
use Rattle.xmp_edit.proofs.Apart.{apart_kept}
use Rattle.xmp_edit.proofs.fields.Fields.edited.Goals as goal

pub invariant_of-result : goal.invariant_of-result
invariant_of-result c =
    let made = makes c.args.action.now in
    let change = at_place c.args.rest.now (change_of c.args.action.now) made in
    (apart_kept change (made && is_end c.args.rest.now) c.args.name.now (present c.self.inside.slots.list) (present c.in_ok-slots.slots.list) c.self.invariant.0 c.in_ok-slots.ensures.gives, c.in_ok-slots.ensures.placed)
