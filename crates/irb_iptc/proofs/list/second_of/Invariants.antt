use Rattle.std.proofs.Common.{◌≡◌, cond, map, drop}
use Rattle.std.specs.Prelude.{slice_get}
use Rattle.irb_iptc.specs.Listing.{of_id}
use Rattle.irb_iptc.specs.Reading.{place_of}
use Rattle.irb_iptc.proofs.list.second_of.Given as goal

-- what is sought in the rest is what is sought in the whole
abbrev pub invariant-loop-block : goal.invariant-loop-block
invariant-loop-block l = slice_get (of_id l.id (map place_of (drop l.block-index l.blocks))) (cond l.seen 0 1) ≡ slice_get (of_id l.id (map place_of l.blocks)) 1
