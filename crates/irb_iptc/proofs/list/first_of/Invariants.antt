use Rattle.std.proofs.Common.{◌≡◌, map, drop}
use Rattle.std.specs.Prelude.{slice_get}
use Rattle.irb_iptc.specs.Listing.{of_id}
use Rattle.irb_iptc.specs.Reading.{place_of}
use Rattle.irb_iptc.proofs.list.first_of.Given as goal

-- what is sought in the rest is what is sought in the whole
abbrev pub invariant-loop-block : goal.invariant-loop-block
invariant-loop-block l = slice_get (of_id l.id (map place_of (drop l.block-index l.blocks))) 0 ≡ slice_get (of_id l.id (map place_of l.blocks)) 0
