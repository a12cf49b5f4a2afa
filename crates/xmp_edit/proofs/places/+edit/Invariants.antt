use Rattle.std.proofs.Common.{◌+◌, ◌*◌, length}
use Rattle.xmp_edit.proofs.places.+edit.Given as goal

abbrev pub decreases-at_place : goal.decreases-at_place
decreases-at_place l = 4 * length l.steps.now

abbrev pub decreases-member_at : goal.decreases-member_at
decreases-member_at l = 4 * length l.rest.now + 1

abbrev pub decreases-in_members : goal.decreases-in_members
decreases-in_members l = 4 * length l.rest.now + 2

abbrev pub decreases-stepped : goal.decreases-stepped
decreases-stepped l = 4 * length l.rest.now + 3

abbrev pub decreases-item_at : goal.decreases-item_at
decreases-item_at l = 4 * length l.rest.now + 1

abbrev pub decreases-in_items : goal.decreases-in_items
decreases-in_items l = 4 * length l.rest.now + 2

abbrev pub decreases-in_tagged : goal.decreases-in_tagged
decreases-in_tagged l = 4 * length l.rest.now + 2
