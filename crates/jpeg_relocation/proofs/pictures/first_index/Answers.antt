use Rattle.std.proofs.Common.{◌∙◌, sym}
use Rattle.jpeg_relocation.proofs.Indexes.{index_here, index_later}
use Rattle.jpeg_relocation.proofs.pictures.first_index.Goals as goal

pub returns-then-is_index : goal.returns-then-is_index
returns-then-is_index c =
    sym (index_here c.args.regions.now c.loop-i.i c.kind.result c.kind.ensures (sym c.is_index.ensures ∙ c.if-is_index.true)) ∙ c.loop-i.invariant

pub loop-i-preserved : goal.loop-i-preserved
loop-i-preserved c =
    sym (index_later c.args.regions.now c.loop-i.i c.kind.result c.kind.ensures (sym c.is_index.ensures ∙ c.if-is_index.false)) ∙ c.loop-i.invariant
