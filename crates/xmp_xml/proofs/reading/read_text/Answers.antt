use Rattle.std.proofs.Common.{◌≡◌, ◌-◌, ◌∙◌, [], length, sym, subst, refl, arith}
use Rattle.std.specs.Str.{chars}
use Rattle.std.proofs.lemmas.Bool.{eqb-true}
use Rattle.std.proofs.lemmas.List.{nil_from_length}
use Rattle.std.proofs.lemmas.Result.{err_from_is_err_and}
use Rattle.xmp_xml.specs.declared.builder.Builder.{Builder}
use Rattle.xmp_xml.specs.Building.{start}
use Rattle.xmp_xml.proofs.Reached.{Reached}
use Rattle.xmp_xml.proofs.Starts.{reached_start}
use Rattle.xmp_xml.proofs.Advancing.{mark_within, advance_reached, stop_reached, ended}
use Rattle.xmp_xml.proofs.reading.read_text.Goals as goal

pub loop-init : goal.loop-init
loop-init c =
    let w = mark_within c.args.text.now c.after_mark-rest.result.now c.utf8.text c.after_mark-rest.utf8 c.after_mark-rest.ensures in
    record {
      text = c.after_mark-rest.utf8;
      reached = subst (λ (s : Builder). Reached c.args.text.now s (chars c.after_mark-rest.result.now)) (sym c.new_builder-builder.ensures) (subst (Reached c.args.text.now start) (sym c.after_mark-rest.ensures) (reached_start c.args.text.now));
      fuel = omega arith;
    }

pub returns-then-is_empty-clause-document : goal.returns-then-is_empty-clause-document
returns-then-is_empty-clause-document c =
    let none : c.loop.rest.now ≡ [] = nil_from_length c.loop.rest.now (eqb-true _ 0 (sym c.is_empty.ensures ∙ c.if-is_empty.true)) in
    (ended c.args.text.now c.loop.rest.now c.loop.builder c.finish.result none c.utf8.text c.loop.invariant.reached c.finish.ensures).0

pub returns-then-is_empty-clause-stop : goal.returns-then-is_empty-clause-stop
returns-then-is_empty-clause-stop c =
    let none : c.loop.rest.now ≡ [] = nil_from_length c.loop.rest.now (eqb-true _ 0 (sym c.is_empty.ensures ∙ c.if-is_empty.true)) in
    (ended c.args.text.now c.loop.rest.now c.loop.builder c.finish.result none c.utf8.text c.loop.invariant.reached c.finish.ensures).1

pub returns-in_err-rest-clause-stop : goal.returns-in_err-rest-clause-stop
returns-in_err-rest-clause-stop c =
    let p = err_from_is_err_and c.from_residual.result c.from_residual.ensures.1 in
    rw (p.1, p.2) (stop_reached c.args.text.now c.loop.rest.now c.loop.builder (length c.args.text.now - length c.loop.rest.now) c.in_err-rest.field-0.0 refl c.utf8.text c.loop.invariant.text c.loop.invariant.reached c.in_err-rest.ensures.stops)

pub loop-preserved : goal.loop-preserved
loop-preserved c = record {
  text = c.in_ok-rest.ensures.utf8;
  reached = advance_reached c.args.text.now c.loop.rest.now c.in_ok-rest.rest.now c.loop.builder c.advance.new.builder (length c.args.text.now - length c.loop.rest.now) refl c.utf8.text c.loop.invariant.text c.loop.invariant.reached c.in_ok-rest.ensures.further;
  fuel = omega (arith, c.in_ok-rest.ensures.shorter, c.loop.invariant.fuel);
}

pub returns-clause-document : goal.returns-clause-document
returns-clause-document c =
    let none : c.loop.rest.now ≡ [] = nil_from_length c.loop.rest.now (omega (arith, c.loop-test.false, c.loop.invariant.fuel)) in
    (ended c.args.text.now c.loop.rest.now c.loop.builder c.finish-2.result none c.utf8.text c.loop.invariant.reached c.finish-2.ensures).0

pub returns-clause-stop : goal.returns-clause-stop
returns-clause-stop c =
    let none : c.loop.rest.now ≡ [] = nil_from_length c.loop.rest.now (omega (arith, c.loop-test.false, c.loop.invariant.fuel)) in
    (ended c.args.text.now c.loop.rest.now c.loop.builder c.finish-2.result none c.utf8.text c.loop.invariant.reached c.finish-2.ensures).1
