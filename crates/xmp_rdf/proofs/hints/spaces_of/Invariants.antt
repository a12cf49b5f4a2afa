use Rattle.std.proofs.Common.{take}
use Rattle.xmp_rdf.specs.SpaceSets.{HasSpaces}
use Rattle.xmp_rdf.proofs.hints.spaces_of.Given as goal

abbrev pub invariant-loop-hint : goal.invariant-loop-hint
invariant-loop-hint l = HasSpaces l.spaces (take l.hint-index l.hint-items)
