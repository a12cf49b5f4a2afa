use Rattle.xmp_files.proofs.Relocations.{total_more, all_total}
use Rattle.xmp_files.proofs.relocating.total_len.Goals as goal

pub loop-part-preserved : goal.loop-part-preserved
loop-part-preserved c = total_more c.args.size _ _ _ _ _ _ _ c.requires c.loop-part-test.true c.loop-part.invariant c.len.ensures c.saturating_add-total.ensures

pub returns : goal.returns
returns c = all_total _ _ _ _ c.loop-part-test.false c.loop-part.invariant
