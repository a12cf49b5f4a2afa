use Rattle.std.proofs.Common.{◌-◌, ◌≤◌, length}
use Rattle.irb_iptc.specs.Entries.{Underway}
use Rattle.irb_iptc.proofs.datasets.Datasets.of.Given as goal

abbrev pub invariant-next : goal.invariant-next
invariant-next l = record { under : Underway l.block l.entries.items l.at; within : l.at ≤ length l.block }

abbrev pub decreases-next : goal.decreases-next
decreases-next l = length l.block - l.at
