use Rattle.xmp_edit.proofs.WholeTrees.{edited_tree}
use Rattle.xmp_edit.specs.Slots.{present}
use Rattle.xmp_edit.proofs.drafts.Draft.edited.Goals as goal

pub invariant_of-result : goal.invariant_of-result
invariant_of-result c =
    (edited_tree c.args.edit.now record { about = c.self.inside.about; props = present c.self.inside.slots.list } (present c.in_ok-slots.slots.list) c.requires c.self.invariant.0 c.in_ok-slots.ensures.gives, c.in_ok-slots.ensures.placed)
