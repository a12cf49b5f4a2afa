use Rattle.std.proofs.Common.{◌+◌, ◌≤◌, length}
use Rattle.std.specs.Prelude.{chars}
use denote.Shadow.{shadow}
use denote.Text.{Utf8}
use Rattle.xmp_xml.proofs.Reached.{Reached}
use Rattle.xmp_xml.proofs.reading.read_text.Given as goal

abbrev pub invariant-loop : goal.invariant-loop
invariant-loop l = record { text : shadow (Utf8 l.rest); reached : Reached l.text l.builder (chars l.rest); fuel : l.counter + length l.rest ≤ length l.text }
