use Rattle.std.proofs.Common.{◌≡◌, map, drop}
use Rattle.std.specs.Prelude.{slice_get}
use Rattle.std.specs.Option.{option_map}
use Rattle.jpeg_regions.specs.Jpeg.{mains}
use Rattle.jpeg_regions.specs.Reads.{region_of}
use Rattle.jpeg_regions.proofs.list.main_payload.Given as goal

-- the main region of the rest is that of the whole
abbrev pub invariant-loop-region : goal.invariant-loop-region
invariant-loop-region l =
    option_map (λ r. r.payload) (slice_get (mains (map region_of (drop l.region-index l.found))) 0)
    ≡ option_map (λ r. r.payload) (slice_get (mains (map region_of l.found)) 0)
