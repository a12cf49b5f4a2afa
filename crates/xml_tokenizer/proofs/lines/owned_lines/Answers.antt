use Rattle.std.proofs.Common.{rules, ◌≡◌, ◌++◌, ◌≤◌, length, sym, ap, ◌∙◌, arith}
use Rattle.std.proofs.lemmas.Str.{encodes-chars, length-le-encodes}
use Rattle.std.specs.Prelude.{encode_utf8, encode_utf8_all}
use Rattle.std.specs.Str.{chars, IsUtf8}
use Rattle.std.specs.String.{string_bytes}
use Rattle.xml_grammar.specs.Spelling.{line_ends}
use Rattle.xml_tokenizer.proofs.LineEnds.{line_written}
use Rattle.xml_tokenizer.proofs.Parts.{none_here}
use Rattle.xml_tokenizer.proofs.lines.owned_lines.Goals as goal

pub loop-init : goal.loop-init
loop-init c =
    let long : length (chars c.args.text.now) ≤ length c.args.text.now = omega (arith, length-le-encodes (chars c.args.text.now), ap length (encodes-chars c.args.text.now c.utf8.text)) in
    record { text = search rules; same = ap (λ t. t ++ encode_utf8_all (line_ends (chars c.args.text.now))) c.new-owned.ensures.bytes; fuel = omega arith }

pub returns-in_default : goal.returns-in_default
returns-in_default c =
    let u : IsUtf8 c.loop.rest.now = search rules in
    let none : line_ends (chars c.loop.rest.now) ≡ chars c.loop.rest.now = none_here c.next_line.result _ c.next_line.ensures.none c.in_default.is in
    c.in_ok-push_str.ensures.bytes ∙ ap (λ t. string_bytes c.loop.owned ++ t) (sym (encodes-chars c.loop.rest.now u) ∙ ap encode_utf8_all (sym none)) ∙ c.loop.invariant.same

pub loop-preserved : goal.loop-preserved
loop-preserved c =
    let u : IsUtf8 c.in-Some.line.now = search rules in
    record {
      text = search rules;
      same = line_written (encode_utf8_all (line_ends (chars c.args.text.now))) (string_bytes c.loop.owned) c.in-Some.line.now (string_bytes c.push.new.self) (chars c.loop.rest.now) (chars c.in-Some.next.now) u c.in-Some.ensures.some (c.in_ok-push.ensures.bytes ∙ ap (λ t. t ++ encode_utf8 10) c.in_ok-push_str-2.ensures.bytes) c.loop.invariant.same;
      fuel = omega (arith, c.in-Some.ensures.shorter, c.loop.invariant.fuel);
    }
