use Rattle.std.proofs.Common.{rules, ◌≡◌, ◌∙◌, true, sym, ap}
use Rattle.std.specs.Prelude.{encode_utf8_all}
use Rattle.std.specs.List.{list_all}
use Rattle.std.specs.Str.{chars, IsUtf8}
use Rattle.std.proofs.lemmas.Str.{encodes-chars}
use Rattle.xml_tokenizer.specs.declared.classes.Class.TheVariants.{Char}
use Rattle.xml_tokenizer.specs.Classes.{is_sure}
use Rattle.xml_tokenizer.proofs.RunEnds.{plain_before}
use Rattle.xml_tokenizer.proofs.Sure.{all_sure}
use Rattle.xml_tokenizer.proofs.searches.plain_text.Goals as goal

pub returns-then-are_char_bytes-clause-front : goal.returns-then-are_char_bytes-clause-front
returns-then-are_char_bytes-clause-front c =
    let u : IsUtf8 c.until_markup.result.0.now = search rules in
    let sure : list_all (is_sure Char) c.until_markup.result.0.now ≡ true = ap (list_all (is_sure Char)) (sym c.as_bytes.ensures.value) ∙ sym c.are_char_bytes.ensures ∙ c.if-are_char_bytes.true in
    let run = plain_before (chars c.args.text.now) (chars c.until_markup.result.0.now) (chars c.until_markup.result.1.now) (sym c.until_markup.ensures.front, sym c.until_markup.ensures.rest) (all_sure Char c.until_markup.result.0.now u sure) in
    sym (encodes-chars c.until_markup.result.0.now u) ∙ ap encode_utf8_all (sym run.0)

pub returns-then-are_char_bytes-clause-rest : goal.returns-then-are_char_bytes-clause-rest
returns-then-are_char_bytes-clause-rest c =
    let u : IsUtf8 c.until_markup.result.0.now = search rules in
    let sure : list_all (is_sure Char) c.until_markup.result.0.now ≡ true = ap (list_all (is_sure Char)) (sym c.as_bytes.ensures.value) ∙ sym c.are_char_bytes.ensures ∙ c.if-are_char_bytes.true in
    sym (plain_before (chars c.args.text.now) (chars c.until_markup.result.0.now) (chars c.until_markup.result.1.now) (sym c.until_markup.ensures.front, sym c.until_markup.ensures.rest) (all_sure Char c.until_markup.result.0.now u sure)).1
