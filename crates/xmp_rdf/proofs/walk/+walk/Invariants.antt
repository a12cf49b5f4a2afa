use Rattle.std.proofs.Common.{◌≡◌, ◌+◌, ◌*◌, take, Ok}
use Rattle.rdf_forms.specs.Parts.{elements_in}
use Rattle.xmp_rdf.specs.Reading.{read_members, read_items}
use Rattle.xmp_rdf.proofs.walk.+walk.Given as goal

abbrev pub invariant-add_items-loop-child : goal.invariant-add_items-loop-child
invariant-add_items-loop-child l = read_items l.levels l.depth l.initial.items (elements_in (take l.child-index l.children)) ≡ Ok l.items

abbrev pub invariant-add_members-loop-child : goal.invariant-add_members-loop-child
invariant-add_members-loop-child l =
    read_members l.levels l.holder l.depth l.initial.members (elements_in (take l.child-index l.children)) ≡ Ok l.members

abbrev pub decreases-property : goal.decreases-property
decreases-property l = 8 * l.levels

abbrev pub decreases-add_member : goal.decreases-add_member
decreases-add_member l = 8 * l.levels + 1

abbrev pub decreases-add_item : goal.decreases-add_item
decreases-add_item l = 8 * l.levels + 1

abbrev pub decreases-add_members : goal.decreases-add_members
decreases-add_members l = 8 * l.levels + 2

abbrev pub decreases-add_items : goal.decreases-add_items
decreases-add_items l = 8 * l.levels + 2

abbrev pub decreases-resource_value : goal.decreases-resource_value
decreases-resource_value l = 8 * l.levels + 3

abbrev pub decreases-node_value : goal.decreases-node_value
decreases-node_value l = 8 * l.levels + 3

abbrev pub decreases-container_value : goal.decreases-container_value
decreases-container_value l = 8 * l.levels + 3

abbrev pub decreases-form_value : goal.decreases-form_value
decreases-form_value l = 8 * l.levels + 4
