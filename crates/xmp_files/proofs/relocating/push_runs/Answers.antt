use Rattle.xmp_files.proofs.Relocations.{push_old, all_old}
use Rattle.xmp_files.proofs.relocating.push_runs.Goals as goal

pub loop-run-preserved : goal.loop-run-preserved
loop-run-preserved c = push_old _ _ _ _ _ _ c.loop-run-test.true c.loop-run.invariant c.in_ok-push.ensures.items

pub returns : goal.returns
returns c = all_old _ _ _ _ c.loop-run-test.false c.loop-run.invariant
