use Rattle.std.proofs.Common.{rules, ◌≡◌, ◌∙◌, true, sym, ap}
use Rattle.std.specs.Prelude.{encode_utf8_all}
use Rattle.std.specs.List.{list_all}
use Rattle.std.specs.Str.{chars, IsUtf8}
use Rattle.std.proofs.lemmas.Str.{encodes-chars}
use Rattle.xml_tokenizer.specs.Classes.{is_value_byte}
use Rattle.xml_tokenizer.proofs.RunEnds.{value_before}
use Rattle.xml_tokenizer.proofs.searches.value_text.Goals as goal

pub returns-then-are_value_bytes-clause-front : goal.returns-then-are_value_bytes-clause-front
returns-then-are_value_bytes-clause-front c =
    let u : IsUtf8 c.until.result.0.now = search rules in
    let sure : list_all is_value_byte c.until.result.0.now ≡ true = ap (list_all is_value_byte) (sym c.as_bytes.ensures.value) ∙ sym c.are_value_bytes.ensures ∙ c.if-are_value_bytes.true in
    let run = value_before c.args.quote (chars c.args.text.now) c.until.result.0.now (chars c.until.result.1.now) u (sym c.until.ensures.front, sym c.until.ensures.rest) sure in
    sym (encodes-chars c.until.result.0.now u) ∙ ap encode_utf8_all (sym run.0)

pub returns-then-are_value_bytes-clause-rest : goal.returns-then-are_value_bytes-clause-rest
returns-then-are_value_bytes-clause-rest c =
    let u : IsUtf8 c.until.result.0.now = search rules in
    let sure : list_all is_value_byte c.until.result.0.now ≡ true = ap (list_all is_value_byte) (sym c.as_bytes.ensures.value) ∙ sym c.are_value_bytes.ensures ∙ c.if-are_value_bytes.true in
    sym (value_before c.args.quote (chars c.args.text.now) c.until.result.0.now (chars c.until.result.1.now) u (sym c.until.ensures.front, sym c.until.ensures.rest) sure).1
