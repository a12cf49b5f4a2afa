use Rattle.std.proofs.Common.{length}
use Rattle.jpeg_regions.specs.Cutting.{CutSoFar, Numbers, left}
use Rattle.jpeg_regions.proofs.list.Regions.cut.Given as goal

abbrev pub invariant-loop-next : goal.invariant-loop-next
invariant-loop-next l = record {
  numbers : Numbers (length l.bytes) l.found.items l.next;
  cut : CutSoFar l.bytes l.found.items l.next;
}

abbrev pub decreases-loop-next : goal.decreases-loop-next
decreases-loop-next l = left l.next
