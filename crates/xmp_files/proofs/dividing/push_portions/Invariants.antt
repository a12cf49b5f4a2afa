use Rattle.std.proofs.Common.{◌≡◌, ◌+◌, ◌*◌, ◌≤◌, ◌++◌, length}
use Rattle.xmp_files.proofs.PushedPortions.{first_portions}
use Rattle.xmp_files.proofs.dividing.push_portions.Given as goal

abbrev pub invariant-loop-k : goal.invariant-loop-k
invariant-loop-k l = (l.segments.items ≡ l.initial.segments.items ++ first_portions l.extended l.k) × (length l.segments.items ≤ length l.initial.segments.items + 65479 * l.k)
