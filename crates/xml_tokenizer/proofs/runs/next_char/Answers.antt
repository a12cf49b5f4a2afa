use Rattle.std.proofs.Common.{◌≡◌, ◌++◌, ◌<◌, length, arith, ap}
use Rattle.std.specs.Prelude.{encode_utf8}
use Rattle.std.proofs.lemmas.List.{length-append}
use Rattle.std.proofs.lemmas.Str.{chars_past_char, length-encode, len_utf8_bounds}
use Rattle.xml_tokenizer.proofs.runs.next_char.Goals as goal

pub returns-in-Some-clause-some : goal.returns-in-Some-clause-some
returns-in-Some-clause-some c =
    let e : c.args.text.now ≡ encode_utf8 c.in-Some.c ++ c.as_str.result.now = cc (c.in-Some.ensures.steps.0, c.chars-it.ensures.rest, c.as_str.ensures) in
    let long : 0 < length (encode_utf8 c.in-Some.c) = omega (arith, length-encode c.in-Some.c, (len_utf8_bounds c.in-Some.c).0) in
    (e, chars_past_char c.args.text.now c.as_str.result.now c.in-Some.c c.utf8.text e, omega (arith, ap length e, length-append (encode_utf8 c.in-Some.c) c.as_str.result.now))
