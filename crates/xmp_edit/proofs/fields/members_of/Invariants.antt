use Rattle.std.proofs.Common.{◌≡◌}
use Rattle.xmp_edit.specs.Slots.{present}
use Rattle.xmp_edit.proofs.fields.members_of.Given as goal

abbrev pub invariant-loop-slot : goal.invariant-loop-slot
invariant-loop-slot l = l.members ≡ present l.yielded
