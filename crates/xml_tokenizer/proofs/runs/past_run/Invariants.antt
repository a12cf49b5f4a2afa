use Rattle.std.proofs.Common.{◌+◌, ◌≤◌, length}
use denote.Shadow.{shadow}
use denote.Text.{Utf8}
use Rattle.xml_tokenizer.specs.Classes.{has}
use Rattle.xml_tokenizer.proofs.Seams.{Went}
use Rattle.xml_tokenizer.proofs.runs.past_run.Given as goal

abbrev pub invariant-loop : goal.invariant-loop
invariant-loop l = record { text : shadow (Utf8 l.rest); went : Went (has l.class) l.text l.rest; fuel : l.counter + length l.rest ≤ length l.text }
