use Rattle.std.proofs.Common.{◌++◌, ◌∷◌, [], ◌∙◌, List, Some, ap}
use Rattle.xmp_tree.specs.declared.nested.Member.{Member}
use Rattle.xmp_edit.specs.Slots.{present}
use Rattle.xmp_edit.proofs.SlotLemmas.{present-push}
use Rattle.xmp_edit.proofs.slots.slots_of.Goals as goal

pub loop-member-preserved : goal.loop-member-preserved
loop-member-preserved c = record {
  members = ap present c.in_ok-slots.ensures.list ∙ present-push c.loop-member.slots.list (Some c.in-Some.member) ∙ ap (λ (ms : List Member). ms ++ c.in-Some.member ∷ []) c.loop-member.invariant.members;
  placed = c.in_ok-slots.ensures.placed;
}
