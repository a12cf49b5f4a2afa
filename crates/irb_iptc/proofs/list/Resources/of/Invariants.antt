use Rattle.std.proofs.Common.{◌-◌, length}
use Rattle.irb_iptc.specs.Reading.{Underway}
use Rattle.irb_iptc.proofs.list.Resources.of.Given as goal

abbrev pub invariant-next : goal.invariant-next
invariant-next l = Underway l.bytes 0 l.blocks.items l.at

abbrev pub decreases-next : goal.decreases-next
decreases-next l = length l.bytes - l.at
