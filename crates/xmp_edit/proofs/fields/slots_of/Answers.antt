use Rattle.std.proofs.Common.{◌++◌, ◌∷◌, [], ◌∙◌, List, Some, ap, sym, subst}
use Rattle.xmp_tree.specs.declared.nested.Member.{Member}
use Rattle.xmp_edit.specs.Slots.{present, HasPlaces}
use Rattle.xmp_edit.proofs.SlotLemmas.{present-push, placed_more}
use Rattle.xmp_edit.proofs.fields.slots_of.Goals as goal

pub loop-member-preserved : goal.loop-member-preserved
loop-member-preserved c = record {
  members = ap present c.in_ok-push.ensures.ok ∙ present-push c.loop-member.list (Some c.in-Some.member) ∙ ap (λ (ms : List Member). ms ++ c.in-Some.member ∷ []) c.loop-member.invariant.members;
  placed = subst (HasPlaces c.in_ok-places.places) (sym c.in_ok-push.ensures.ok)
      (placed_more c.loop-member.list c.loop-member.places c.loop-member.invariant.placed c.in_ok-key.key c.in-Some.member c.len.result c.in_ok-places.places c.in_ok-key.ensures c.len.ensures c.in_ok-places.ensures);
}
