use Rattle.std.proofs.Common.{take}
use Rattle.std.specs.List.{flat_map}
use Rattle.rdf_forms.specs.Entering.{IsEntered}
use Rattle.rdf_forms.proofs.EnteredLists.{own_name}
use Rattle.rdf_forms.proofs.member_names.enter_attributes.Given as goal

abbrev pub invariant-loop-attribute : goal.invariant-loop-attribute
invariant-loop-attribute l = IsEntered l.initial.seen (flat_map (own_name l.without_value) (take l.attribute-index l.attribute-items)) l.seen
