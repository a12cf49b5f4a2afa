use Rattle.std.proofs.Common.{length}
use Rattle.xmp_paths.proofs.finding.+child_at.Given as goal

abbrev pub decreases-child_at : goal.decreases-child_at
decreases-child_at l = length l.steps.now
