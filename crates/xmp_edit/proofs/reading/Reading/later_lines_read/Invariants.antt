use Rattle.std.proofs.Common.{◌≡◌, ◌+◌, ◌≤◌, drop}
use Rattle.xmp_edit.specs.Lines.{later_lines}
use Rattle.xmp_edit.specs.ScriptOf.{lines_read}
use Rattle.xmp_edit.proofs.reading.Reading.later_lines_read.Given as goal

abbrev pub invariant-loop-at : goal.invariant-loop-at
invariant-loop-at l = record {
  same : lines_read (later_lines (drop l.at l.text)) (l.line + 1) l.reading ≡ lines_read (later_lines l.text) 2 l.initial.reading;
  small : l.line ≤ l.at + 1;
}
