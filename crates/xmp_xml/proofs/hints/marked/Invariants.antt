use Rattle.std.proofs.Common.{◌≡◌, ◌++◌, List}
use Rattle.xmp_values.specs.declared.hints.Hint.{Hint}
use Rattle.xmp_xml.specs.Marks.{marked}
use Rattle.xmp_xml.proofs.hints.marked.Given as goal

abbrev pub invariant-loop-hint : goal.invariant-loop-hint
invariant-loop-hint l = record {
  rest : (more : List Hint) → marked l.marks (l.yielded ++ more) ≡ l.firsts ++ marked l.rest more;
  firsts : l.firsts ≡ marked l.marks l.yielded;
}
