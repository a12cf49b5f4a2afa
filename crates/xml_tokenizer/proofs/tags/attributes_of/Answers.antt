use Rattle.std.proofs.Common.{rules, ◌≡◌, ◌<◌, true, false, eqb, ◌∙◌, sym, arith}
use Rattle.std.proofs.lemmas.Result.{err_from_is_err_and}
use Rattle.std.proofs.lemmas.Bool.{ne_eqb, eq-eqb}
use Rattle.std.specs.Str.{chars}
use Rattle.xml_tokenizer.specs.Runs.{width}
use Rattle.xml_tokenizer.specs.Tags.{closes, attributes_at}
use Rattle.xml_tokenizer.proofs.Attributes.{goes_on, misses_one, stuck, is_done, ran_out}
use Rattle.xml_tokenizer.proofs.tags.attributes_of.Goals as goal

pub loop-preserved : goal.loop-preserved
loop-preserved c =
    let lt : c.loop.counter < width (chars c.args.text.now) = omega (arith, c.loop-test.true, c.width_of-end.ensures) in
    let shut : closes (chars c.past_run-ahead.result.now) ≡ false = sym c.closes.ensures ∙ c.if-closes.false in
    let moved : eqb (width (chars c.past_run-ahead.result.now)) (width (chars c.loop.rest.now)) ≡ false = ne_eqb _ _ (λ e. c.if-width_of.false (c.width_of.ensures ∙ e ∙ sym c.width_of-in-loop.ensures)) in
    record { text = search rules; same = rw (c.in_ok-push.ensures.ok) (goes_on c.loop.attributes (width (chars c.args.text.now)) c.loop.counter (chars c.loop.rest.now) (chars c.past_run-ahead.result.now) c.in_ok-attribute.attribute (chars c.in_ok-attribute.next.now) (attributes_at (width (chars c.args.text.now)) (chars c.args.text.now)) lt c.past_run-ahead.ensures.rest shut moved c.in_ok-attribute.ensures c.loop.invariant.same) }

pub returns-in_err-attribute : goal.returns-in_err-attribute
returns-in_err-attribute c =
    let lt : c.loop.counter < width (chars c.args.text.now) = omega (arith, c.loop-test.true, c.width_of-end.ensures) in
    let shut : closes (chars c.past_run-ahead.result.now) ≡ false = sym c.closes.ensures ∙ c.if-closes.false in
    let moved : eqb (width (chars c.past_run-ahead.result.now)) (width (chars c.loop.rest.now)) ≡ false = ne_eqb _ _ (λ e. c.if-width_of.false (c.width_of.ensures ∙ e ∙ sym c.width_of-in-loop.ensures)) in
    let p = err_from_is_err_and c.from_residual.result c.from_residual.ensures.1 in
    rw (p.1, p.2) (misses_one c.in_err-attribute.field-0.0 c.loop.attributes (width (chars c.args.text.now)) c.loop.counter (chars c.loop.rest.now) (chars c.past_run-ahead.result.now) (attributes_at (width (chars c.args.text.now)) (chars c.args.text.now)) lt c.past_run-ahead.ensures.rest shut moved c.in_err-attribute.ensures c.loop.invariant.same)

pub returns-then-closes : goal.returns-then-closes
returns-then-closes c =
    let lt : c.loop.counter < width (chars c.args.text.now) = omega (arith, c.loop-test.true, c.width_of-end.ensures) in
    let shut : closes (chars c.past_run-ahead.result.now) ≡ true = sym c.closes.ensures ∙ c.if-closes.true in
    is_done c.loop.attributes (width (chars c.args.text.now)) c.loop.counter (chars c.loop.rest.now) (chars c.past_run-ahead.result.now) (attributes_at (width (chars c.args.text.now)) (chars c.args.text.now)) lt c.past_run-ahead.ensures.rest shut c.loop.invariant.same

pub returns-then-width_of : goal.returns-then-width_of
returns-then-width_of c =
    let lt : c.loop.counter < width (chars c.args.text.now) = omega (arith, c.loop-test.true, c.width_of-end.ensures) in
    let shut : closes (chars c.past_run-ahead.result.now) ≡ false = sym c.closes.ensures ∙ c.if-closes.false in
    let moved : eqb (width (chars c.past_run-ahead.result.now)) (width (chars c.loop.rest.now)) ≡ true = eq-eqb _ _ (sym c.width_of.ensures ∙ c.if-width_of.true ∙ c.width_of-in-loop.ensures) in
    stuck c.loop.attributes (width (chars c.args.text.now)) c.loop.counter (chars c.loop.rest.now) (chars c.past_run-ahead.result.now) (attributes_at (width (chars c.args.text.now)) (chars c.args.text.now)) lt c.past_run-ahead.ensures.rest shut moved c.loop.invariant.same

pub returns : goal.returns
returns c = ran_out c.loop.attributes (width (chars c.args.text.now)) c.loop.counter (chars c.loop.rest.now) (attributes_at (width (chars c.args.text.now)) (chars c.args.text.now)) (omega (arith, c.loop-test.false, c.width_of-end.ensures)) c.loop.invariant.same
