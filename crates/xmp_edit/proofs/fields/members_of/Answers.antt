use Rattle.std.proofs.Common.{◌++◌, ◌∙◌, List, sym, ap}
use Rattle.std.specs.Prelude.{option_to_list}
use Rattle.xmp_tree.specs.declared.nested.Member.{Member}
use Rattle.xmp_edit.proofs.SlotLemmas.{present-push}
use Rattle.xmp_edit.proofs.fields.members_of.Goals as goal

pub loop-slot-preserved : goal.loop-slot-preserved
loop-slot-preserved c =
    c.in_ok-members.ensures ∙ ap (λ (ms : List Member). ms ++ option_to_list c.in-Some.slot) c.loop-slot.invariant ∙ sym (present-push c.loop-slot.yielded c.in-Some.slot)
