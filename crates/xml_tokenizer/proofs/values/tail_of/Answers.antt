use Rattle.std.proofs.Common.{rules, ◌≡◌, [], ◌∷◌, ◌++◌, None, ◌∙◌}
use Rattle.std.specs.Prelude.{encode_utf8, encode_utf8_all}
use Rattle.std.specs.Str.{chars}
use Rattle.std.specs.String.{string_bytes}
use Rattle.xml_tokenizer.specs.Classes.{is_value}
use Rattle.xml_tokenizer.specs.Runs.{after, taken, with_front}
use Rattle.xml_tokenizer.specs.Values.{special_at, tail_at}
use Rattle.xml_tokenizer.proofs.Parts.{none_part}
use Rattle.xml_tokenizer.proofs.Tails.{tail_more, tail_misses, tail_done, tail_out}
use Rattle.xml_tokenizer.proofs.values.tail_of.Goals as goal

pub loop-preserved : goal.loop-preserved
loop-preserved c =
    let none = none_part c.after_char.result (after (c.args.quote ∷ []) (chars c.loop.rest.now) ≡ None) _ c.after_char.ensures c.in_default.is in
    let e : string_bytes c.push_str.new.self ≡ string_bytes c.loop.owned ++ encode_utf8 c.in-Some-special_of.c ++ encode_utf8_all (taken (is_value c.args.quote) (chars c.in-Some-special_of.literal.now)) = c.in_ok-push_str.ensures.bytes ∙ cc (c.in_ok-push.ensures.bytes, c.run.ensures.front) in
    record { text = search rules; same = tail_more (string_bytes c.loop.owned) (string_bytes c.push_str.new.self) c.args.steps c.loop.counter c.args.quote (chars c.loop.rest.now) (c.in-Some-special_of.c, chars c.in-Some-special_of.literal.now) (chars c.run.result.1.now) (with_front (string_bytes c.args.front) (tail_at c.args.steps c.args.quote (chars c.args.text.now))) c.loop-test.true none c.in-Some-special_of.ensures c.run.ensures.rest e c.loop.invariant.same }

pub returns-in_default-special_of : goal.returns-in_default-special_of
returns-in_default-special_of c =
    let none = none_part c.after_char.result (after (c.args.quote ∷ []) (chars c.loop.rest.now) ≡ None) _ c.after_char.ensures c.in_default.is in
    let missed = none_part c.special_of.result (special_at (chars c.loop.rest.now) ≡ None) _ c.special_of.ensures c.in_default-special_of.is in
    tail_misses (string_bytes c.loop.owned) c.args.steps c.loop.counter c.args.quote (chars c.loop.rest.now) (with_front (string_bytes c.args.front) (tail_at c.args.steps c.args.quote (chars c.args.text.now))) c.loop-test.true none missed c.loop.invariant.same

pub returns-in-Some : goal.returns-in-Some
returns-in-Some c = tail_done (string_bytes c.loop.owned) c.args.steps c.loop.counter c.args.quote (chars c.loop.rest.now) (chars c.in-Some.next.now) (with_front (string_bytes c.args.front) (tail_at c.args.steps c.args.quote (chars c.args.text.now))) c.loop-test.true c.in-Some.ensures c.loop.invariant.same

pub returns : goal.returns
returns c = tail_out (string_bytes c.loop.owned) c.args.steps c.loop.counter c.args.quote (chars c.loop.rest.now) (with_front (string_bytes c.args.front) (tail_at c.args.steps c.args.quote (chars c.args.text.now))) c.loop-test.false c.loop.invariant.same
