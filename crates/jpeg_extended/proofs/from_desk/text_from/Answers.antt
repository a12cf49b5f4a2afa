use Rattle.std.proofs.Common.{◌∙◌, ap, ◌++◌, ℕ, List}
use Rattle.jpeg_extended.proofs.DeskPortions.{text_step, text_done}
use Rattle.jpeg_extended.proofs.from_desk.text_from.Goals as goal

pub loop-head-preserved : goal.loop-head-preserved
loop-head-preserved g c = text_step _ _ _ _ _ _ _ _ _ _ c.in-Ok.part c.loop-head-test.true c.requires.of c.loop-head.invariant c.in-Ok.ensures.call
    (c.in-Ok-extend_from_slice.ensures.items ∙ ap (λ (l : List ℕ). c.loop-head.text.items ++ l) c.as_slice.ensures)

pub returns : goal.returns
returns g c = record { call = text_done _ _ _ _ _ _ _ _ c.loop-head-test.false c.loop-head.invariant c.from_vec.ensures }
