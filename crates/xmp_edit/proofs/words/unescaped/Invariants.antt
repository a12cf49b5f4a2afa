use Rattle.std.proofs.Common.{◌≡◌, drop}
use Rattle.xmp_paths.proofs.Collected.{after}
use Rattle.xmp_edit.specs.Lines.{unescaped_from, unescaped}
use Rattle.xmp_edit.proofs.words.unescaped.Given as goal

abbrev pub invariant-loop-byte : goal.invariant-loop-byte
invariant-loop-byte l = after l.bytes (unescaped_from l.is_escape (drop l.byte-index l.text)) ≡ unescaped l.text
