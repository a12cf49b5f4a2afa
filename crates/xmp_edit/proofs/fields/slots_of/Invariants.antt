use Rattle.std.proofs.Common.{◌≡◌}
use Rattle.xmp_edit.specs.Slots.{present, HasPlaces}
use Rattle.xmp_edit.proofs.fields.slots_of.Given as goal

abbrev pub invariant-loop-member : goal.invariant-loop-member
invariant-loop-member l = record { members : present l.list ≡ l.yielded; placed : HasPlaces l.places l.list }
