use Rattle.std.proofs.Common.{◌≡◌, ◌-◌, List, [], map, length}
use Rattle.irb_iptc.specs.declared.block.Block.{Block}
use Rattle.irb_iptc.specs.Listing.{of_id}
use Rattle.irb_iptc.specs.Reading.{Underway, place_of}
use Rattle.irb_iptc.proofs.digest.stored_digest.Given as goal

-- the blocks so far are none of the id
abbrev pub invariant-next : goal.invariant-next
invariant-next l = (blocks : List Block) × Underway l.bytes 0 blocks l.at × (of_id 1061 (map place_of blocks) ≡ [])

abbrev pub decreases-next : goal.decreases-next
decreases-next l = length l.bytes - l.at
