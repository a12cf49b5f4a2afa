use Rattle.std.proofs.Common.{◌≡◌, drop}
use Rattle.std.specs.List.{fold}
use Rattle.xmp_values.specs.Hints.{AreValid}
use Rattle.xmp_edit.specs.ScriptParts.{HasNamespaces}
use Rattle.xmp_edit.specs.ScriptOf.{with_hint}
use Rattle.xmp_edit.proofs.reading.with_hints.Given as goal

abbrev pub invariant-loop-line : goal.invariant-loop-line
invariant-loop-line l = record {
  same : fold with_hint l.merged (drop l.line-index l.lines) ≡ fold with_hint l.hints l.lines;
  valid : AreValid l.merged;
  seen : HasNamespaces l.seen l.merged;
}
