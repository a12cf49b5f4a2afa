use Rattle.std.proofs.Common.{◌≡◌, ◌-◌}
use denote.Shadow.{shadow}
use denote.Text.{Utf8}
use Rattle.std.specs.Str.{chars}
use Rattle.xml_tokenizer.specs.Runs.{width}
use Rattle.xml_tokenizer.specs.Tags.{attributes_at}
use Rattle.xml_tokenizer.proofs.Attributes.{with_attributes}
use Rattle.xml_tokenizer.proofs.tags.attributes_of.Given as goal

abbrev pub invariant-loop : goal.invariant-loop
invariant-loop l = record { text : shadow (Utf8 l.rest); same : with_attributes l.attributes (attributes_at (width (chars l.text) - l.counter) (chars l.rest)) ≡ attributes_at (width (chars l.text)) (chars l.text) }
