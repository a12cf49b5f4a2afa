use Rattle.std.proofs.Common.{◌≡◌, take}
use Rattle.xmp_values.proofs.hints.copies.Given as goal

abbrev pub invariant-loop-hint : goal.invariant-loop-hint
invariant-loop-hint l = l.list ≡ take l.hint-index l.hints
