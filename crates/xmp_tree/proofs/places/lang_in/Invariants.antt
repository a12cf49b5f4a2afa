use Rattle.std.proofs.Common.{◌≡◌, drop}
use Rattle.xmp_tree.specs.Places.{lang_in}
use Rattle.xmp_tree.proofs.places.lang_in.Given as goal

abbrev pub invariant-loop-member : goal.invariant-loop-member
invariant-loop-member l = lang_in (drop l.member-index l.members) ≡ lang_in l.members
