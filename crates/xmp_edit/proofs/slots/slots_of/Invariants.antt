use Rattle.std.proofs.Common.{◌≡◌}
use Rattle.xmp_edit.specs.Slots.{present, HasPlaces}
use Rattle.xmp_edit.proofs.slots.slots_of.Given as goal

abbrev pub invariant-loop-member : goal.invariant-loop-member
invariant-loop-member l = record { members : present l.slots.list ≡ l.yielded; placed : HasPlaces l.slots.places l.slots.list }
