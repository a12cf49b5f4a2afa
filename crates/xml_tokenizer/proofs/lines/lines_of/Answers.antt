use Rattle.std.proofs.Common.{◌∙◌, sym, ap}
use Rattle.std.specs.Prelude.{encode_utf8_all}
use Rattle.std.proofs.lemmas.Str.{encodes-chars}
use Rattle.xml_tokenizer.proofs.lines.lines_of.Goals as goal

pub returns-in-None : goal.returns-in-None
returns-in-None c = c.raw.ensures ∙ c.as_bytes.ensures.value ∙ sym (encodes-chars c.args.text.now c.utf8.text) ∙ ap encode_utf8_all (sym c.in-None.ensures.none)
