use Rattle.std.proofs.Common.{◌+◌, ◌≤◌, length}
use denote.Shadow.{shadow}
use denote.Text.{Utf8}
use Rattle.xml_tokenizer.proofs.Digits.{Counts}
use Rattle.xml_tokenizer.proofs.references.digits_of.Given as goal

abbrev pub invariant-loop : goal.invariant-loop
invariant-loop l = record { text : shadow (Utf8 l.rest); counts : Counts l.base l.text l.number l.rest; fuel : l.counter + length l.rest ≤ length l.text }
