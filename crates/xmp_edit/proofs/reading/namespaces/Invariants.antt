use Rattle.std.proofs.Common.{take}
use Rattle.xmp_edit.specs.ScriptParts.{HasNamespaces}
use Rattle.xmp_edit.proofs.reading.namespaces.Given as goal

abbrev pub invariant-loop-hint : goal.invariant-loop-hint
invariant-loop-hint l = HasNamespaces l.seen (take l.hint-index l.hints)
