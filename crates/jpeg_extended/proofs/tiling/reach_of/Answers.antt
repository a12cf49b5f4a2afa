use Rattle.std.proofs.Common.{◌∙◌, sym}
use Rattle.jpeg_extended.proofs.Extents.{goes_on, ends, tiles_on, tiles_off}
use Rattle.jpeg_extended.proofs.tiling.reach_of.Goals as goal

pub returns-then-head-at-clause-place : goal.returns-then-head-at-clause-place
returns-then-head-at-clause-place c =
    sym (c.loop-head.invariant.place ∙ ends c.args.heads.now c.loop-head.head-index _ c.loop-head.at c.loop-head-test.true c.if-head-at.true)

pub returns-then-head-at-clause-all : goal.returns-then-head-at-clause-all
returns-then-head-at-clause-all c = (
  λ e. absurd (cc e),
  λ t. absurd (tiles_off c.args.heads.now c.loop-head.head-index _ c.loop-head.at c.loop-head-test.true c.loop-head.at c.if-head-at.true ((c.loop-head.invariant.all c.loop-head.at).1 t)),
)

pub loop-head-preserved : goal.loop-head-preserved
loop-head-preserved c = record {
  place = c.loop-head.invariant.place ∙ goes_on c.args.heads.now c.loop-head.head-index _ c.loop-head.at c.loop-head-test.true c.if-head-at.false;
  all = λ end.
      let on = tiles_on c.args.heads.now c.loop-head.head-index _ c.loop-head.at c.loop-head-test.true end c.if-head-at.false in
      (λ t. (c.loop-head.invariant.all end).0 (on.0 t), λ t. on.1 ((c.loop-head.invariant.all end).1 t));
}
