use Rattle.std.proofs.Common.{◌≡◌, map, take}
use Rattle.std.specs.Prelude.{filter}
use Rattle.rdf_forms.specs.Values.{attribute_member, is_node_member}
use Rattle.xmp_rdf.proofs.members.node_members.Given as goal

abbrev pub invariant-loop-attribute : goal.invariant-loop-attribute
invariant-loop-attribute l = l.members ≡ map attribute_member (filter is_node_member (take l.attribute-index l.attribute-items))
