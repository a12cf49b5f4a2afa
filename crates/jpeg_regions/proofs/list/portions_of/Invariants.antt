use Rattle.std.proofs.Common.{◌≡◌, ◌++◌, map, drop}
use Rattle.jpeg_regions.specs.Jpeg.{portion_payloads}
use Rattle.jpeg_regions.specs.Reads.{region_of}
use Rattle.jpeg_regions.proofs.list.portions_of.Given as goal

-- with those of the rest they are those of the whole
abbrev pub invariant-loop-region : goal.invariant-loop-region
invariant-loop-region l = l.payloads.items ++ portion_payloads (map region_of (drop l.region-index l.found)) ≡ portion_payloads (map region_of l.found)
