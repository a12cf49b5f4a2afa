use Rattle.std.proofs.Common.{◌≡◌, cond, map, drop}
use Rattle.std.specs.Prelude.{slice_get}
use Rattle.std.specs.Option.{option_map}
use Rattle.jpeg_regions.specs.Jpeg.{mains}
use Rattle.jpeg_regions.specs.Reads.{region_of}
use Rattle.jpeg_regions.proofs.list.second_main.Given as goal

-- what is sought in the rest is what is sought in the whole
abbrev pub invariant-loop-region : goal.invariant-loop-region
invariant-loop-region l =
    option_map (λ r. r.range.start) (slice_get (mains (map region_of (drop l.region-index l.found))) (cond l.seen 0 1))
    ≡ option_map (λ r. r.range.start) (slice_get (mains (map region_of l.found)) 1)
