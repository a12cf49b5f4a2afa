use Rattle.std.proofs.Common.{◌≡◌, drop}
use Rattle.xmp_tree.specs.Places.{value_named}
use Rattle.xmp_tree.proofs.places.value_named.Given as goal

abbrev pub invariant-loop-member : goal.invariant-loop-member
invariant-loop-member l = value_named l.name (drop l.member-index l.members) ≡ value_named l.name l.members
