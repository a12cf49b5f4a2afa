use Rattle.std.proofs.Common.{◌≡◌, drop}
use Rattle.xmp_values.specs.Hints.{space_in}
use Rattle.xmp_values.proofs.hints.space_in.Given as goal

abbrev pub invariant-loop-hint : goal.invariant-loop-hint
invariant-loop-hint l = space_in (drop l.hint-index l.hints) l.prefix ≡ space_in l.hints l.prefix
