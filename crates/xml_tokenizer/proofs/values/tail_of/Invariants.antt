use Rattle.std.proofs.Common.{◌≡◌, ◌-◌}
use denote.Shadow.{shadow}
use denote.Text.{Utf8}
use Rattle.std.specs.Str.{chars}
use Rattle.std.specs.String.{string_bytes}
use Rattle.xml_tokenizer.specs.Runs.{with_front}
use Rattle.xml_tokenizer.specs.Values.{tail_at}
use Rattle.xml_tokenizer.proofs.values.tail_of.Given as goal

abbrev pub invariant-loop : goal.invariant-loop
invariant-loop l = record { text : shadow (Utf8 l.rest); same : with_front (string_bytes l.owned) (tail_at (l.steps - l.counter) l.quote (chars l.rest)) ≡ with_front (string_bytes l.fn.front) (tail_at l.steps l.quote (chars l.text)) }
