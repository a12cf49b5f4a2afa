use Rattle.xmp_files.proofs.PushedPortions.{portion_more, portion_longer}
use Rattle.xmp_files.proofs.dividing.push_portions.Goals as goal

pub loop-k-preserved : goal.loop-k-preserved
loop-k-preserved c = (
  portion_more c.args.extended.now _ _ _ _ c.loop-k.invariant.0 c.in_ok-push_portion.ensures,
  portion_longer c.args.extended.now _ _ _ _ c.loop-k.invariant.1 c.in_ok-push_portion.ensures,
)
