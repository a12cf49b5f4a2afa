use Rattle.std.proofs.Common.{rules, ◌∙◌, sym, ap}
use Rattle.std.specs.Prelude.{encode_utf8_all}
use Rattle.std.specs.Str.{chars, IsUtf8}
use Rattle.xml_tokenizer.proofs.PlainLaws.{outside_run, whole_run, cut_run}
use Rattle.xml_tokenizer.proofs.tokens.plain_run.Goals as goal

pub returns-then-not-inside-clause-front : goal.returns-then-not-inside-clause-front
returns-then-not-inside-clause-front c = c.plain_text.ensures.front ∙ ap encode_utf8_all (sym (outside_run c.args.inside (chars c.args.text.now) c.if-not-inside.true).0)

pub returns-then-not-inside-clause-rest : goal.returns-then-not-inside-clause-rest
returns-then-not-inside-clause-rest c = c.plain_text.ensures.rest ∙ sym (outside_run c.args.inside (chars c.args.text.now) c.if-not-inside.true).1

pub returns-then-lacks_bracket-clause-front : goal.returns-then-lacks_bracket-clause-front
returns-then-lacks_bracket-clause-front c = c.plain_text.ensures.front ∙ ap encode_utf8_all (sym (whole_run c.args.inside c.args.text.now c.plain_text.result.0.now c.if-not-inside.false c.utf8.text c.plain_text.ensures.front (c.lacks_bracket.ensures c.if-lacks_bracket.true)).0)

pub returns-then-lacks_bracket-clause-rest : goal.returns-then-lacks_bracket-clause-rest
returns-then-lacks_bracket-clause-rest c = c.plain_text.ensures.rest ∙ sym (whole_run c.args.inside c.args.text.now c.plain_text.result.0.now c.if-not-inside.false c.utf8.text c.plain_text.ensures.front (c.lacks_bracket.ensures c.if-lacks_bracket.true)).1

pub split_at-requires : goal.split_at-requires
split_at-requires c =
    let v : IsUtf8 c.in-Some.front.now = search rules in
    (cut_run c.args.inside c.args.text.now c.plain_text.result.0.now c.in-Some.front.now _ c.if-not-inside.false c.utf8.text v c.plain_text.ensures.front c.in-Some.ensures).boundary

pub returns-in-Some-clause-front : goal.returns-in-Some-clause-front
returns-in-Some-clause-front c =
    let v : IsUtf8 c.in-Some.front.now = search rules in
    c.split_at.ensures.front ∙ (cut_run c.args.inside c.args.text.now c.plain_text.result.0.now c.in-Some.front.now _ c.if-not-inside.false c.utf8.text v c.plain_text.ensures.front c.in-Some.ensures).front

pub returns-in-Some-clause-rest : goal.returns-in-Some-clause-rest
returns-in-Some-clause-rest c =
    let v : IsUtf8 c.in-Some.front.now = search rules in
    ap chars c.split_at.ensures.back ∙ (cut_run c.args.inside c.args.text.now c.plain_text.result.0.now c.in-Some.front.now _ c.if-not-inside.false c.utf8.text v c.plain_text.ensures.front c.in-Some.ensures).rest

pub returns-in-None-clause-front : goal.returns-in-None-clause-front
returns-in-None-clause-front c = c.plain_text.ensures.front ∙ ap encode_utf8_all (sym (whole_run c.args.inside c.args.text.now c.plain_text.result.0.now c.if-not-inside.false c.utf8.text c.plain_text.ensures.front c.in-None.ensures).0)

pub returns-in-None-clause-rest : goal.returns-in-None-clause-rest
returns-in-None-clause-rest c = c.plain_text.ensures.rest ∙ sym (whole_run c.args.inside c.args.text.now c.plain_text.result.0.now c.if-not-inside.false c.utf8.text c.plain_text.ensures.front c.in-None.ensures).1
