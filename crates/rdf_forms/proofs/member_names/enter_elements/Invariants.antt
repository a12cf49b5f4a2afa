use Rattle.std.proofs.Common.{take}
use Rattle.std.specs.List.{flat_map}
use Rattle.rdf_forms.specs.Entering.{IsEntered}
use Rattle.rdf_forms.proofs.EnteredLists.{child_names}
use Rattle.rdf_forms.proofs.member_names.enter_elements.Given as goal

abbrev pub invariant-loop-child : goal.invariant-loop-child
invariant-loop-child l = IsEntered l.initial.seen (flat_map (child_names l.without_value) (take l.child-index l.child-items)) l.seen
