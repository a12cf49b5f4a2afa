use Rattle.std.proofs.Common.{◌≡◌, ◌++◌, ◌+◌, ◌≤◌, length}
use denote.Shadow.{shadow}
use denote.Text.{Utf8}
use Rattle.std.specs.Prelude.{encode_utf8_all}
use Rattle.std.specs.Str.{chars}
use Rattle.std.specs.String.{string_bytes}
use Rattle.xml_grammar.specs.Spelling.{line_ends}
use Rattle.xml_tokenizer.proofs.lines.owned_lines.Given as goal

abbrev pub invariant-loop : goal.invariant-loop
invariant-loop l = record { text : shadow (Utf8 l.rest); same : string_bytes l.owned ++ encode_utf8_all (line_ends (chars l.rest)) ≡ encode_utf8_all (line_ends (chars l.text)); fuel : l.counter + length (chars l.rest) ≤ length l.text }
