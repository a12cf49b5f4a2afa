use Rattle.std.proofs.Common.{◌≡◌, drop}
use Rattle.xmp_values.specs.Hints.{prefix_in}
use Rattle.xmp_values.proofs.hints.prefix_in.Given as goal

abbrev pub invariant-loop-hint : goal.invariant-loop-hint
invariant-loop-hint l = prefix_in (drop l.hint-index l.hints) l.space ≡ prefix_in l.hints l.space
