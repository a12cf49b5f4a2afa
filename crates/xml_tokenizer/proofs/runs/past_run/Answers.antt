use Rattle.std.proofs.Common.{◌≤◌, ◌∙◌, sym, ap, arith, length}
use Rattle.std.proofs.lemmas.List.{nil_from_length, length-append}
use Rattle.std.proofs.lemmas.Str.{IsUtf8-past_char}
use Rattle.std.specs.Prelude.{encode_utf8_all}
use Rattle.xml_tokenizer.specs.Classes.{has}
use Rattle.xml_tokenizer.proofs.Parts.{none_here}
use Rattle.xml_tokenizer.proofs.Seams.{went_pass, went_more, went_stop, went_end}
use Rattle.xml_tokenizer.proofs.runs.past_run.Goals as goal

pub loop-preserved : goal.loop-preserved
loop-preserved c =
    let w = went_pass (has c.args.class) c.args.text.now c.loop.rest.now c.past_sure-unsure.result.now c.loop.invariant.went c.past_sure-unsure.ensures in
    let shorter : length c.past_sure-unsure.result.now ≤ length c.loop.rest.now = omega (arith, ap length c.past_sure-unsure.ensures.2, length-append (encode_utf8_all c.past_sure-unsure.ensures.0) c.past_sure-unsure.result.now) in
    record {
      text = IsUtf8-past_char c.past_sure-unsure.result.now c.in-Some.next.now c.in-Some.c c.past_sure-unsure.utf8 c.in-Some.ensures.some.0;
      went = went_more (has c.args.class) c.args.text.now c.past_sure-unsure.result.now c.in-Some.next.now c.in-Some.c w c.in-Some.ensures.some.0 c.in-Some.ensures.some.1 (sym c.has.ensures ∙ c.if-not-has.false);
      fuel = omega (arith, shorter, c.in-Some.ensures.some.2, c.loop.invariant.fuel);
    }

pub returns-clause-parts : goal.returns-clause-parts
returns-clause-parts c = (went_end (has c.args.class) c.args.text.now c.loop.rest.now c.loop.invariant.went (nil_from_length c.loop.rest.now (omega (arith, c.loop.invariant.fuel)))).parts

pub returns-clause-rest : goal.returns-clause-rest
returns-clause-rest c = (went_end (has c.args.class) c.args.text.now c.loop.rest.now c.loop.invariant.went (nil_from_length c.loop.rest.now (omega (arith, c.loop.invariant.fuel)))).same

pub returns-in_default-clause-parts : goal.returns-in_default-clause-parts
returns-in_default-clause-parts c =
    let w = went_pass (has c.args.class) c.args.text.now c.loop.rest.now c.past_sure-unsure.result.now c.loop.invariant.went c.past_sure-unsure.ensures in
    (went_end (has c.args.class) c.args.text.now c.past_sure-unsure.result.now w (none_here c.next_char.result _ c.next_char.ensures.empty c.in_default.is)).parts

pub returns-in_default-clause-rest : goal.returns-in_default-clause-rest
returns-in_default-clause-rest c =
    let w = went_pass (has c.args.class) c.args.text.now c.loop.rest.now c.past_sure-unsure.result.now c.loop.invariant.went c.past_sure-unsure.ensures in
    (went_end (has c.args.class) c.args.text.now c.past_sure-unsure.result.now w (none_here c.next_char.result _ c.next_char.ensures.empty c.in_default.is)).same

pub returns-then-not-has-clause-parts : goal.returns-then-not-has-clause-parts
returns-then-not-has-clause-parts c =
    let w = went_pass (has c.args.class) c.args.text.now c.loop.rest.now c.past_sure-unsure.result.now c.loop.invariant.went c.past_sure-unsure.ensures in
    (went_stop (has c.args.class) c.args.text.now c.past_sure-unsure.result.now c.in-Some.next.now c.in-Some.c w c.in-Some.ensures.some.1 (sym c.has.ensures ∙ c.if-not-has.true)).parts

pub returns-then-not-has-clause-rest : goal.returns-then-not-has-clause-rest
returns-then-not-has-clause-rest c =
    let w = went_pass (has c.args.class) c.args.text.now c.loop.rest.now c.past_sure-unsure.result.now c.loop.invariant.went c.past_sure-unsure.ensures in
    (went_stop (has c.args.class) c.args.text.now c.past_sure-unsure.result.now c.in-Some.next.now c.in-Some.c w c.in-Some.ensures.some.1 (sym c.has.ensures ∙ c.if-not-has.true)).same
