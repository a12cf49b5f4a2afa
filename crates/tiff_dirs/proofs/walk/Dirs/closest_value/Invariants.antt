use Rattle.std.proofs.Common.{◌≡◌}
use Rattle.std.specs.List.{flat_map, slice_get, slice_range}
use Rattle.tiff_dirs.specs.Tiff.{entries_in}
use Rattle.tiff_dirs.specs.Overlaps.{apart_of}
use Rattle.tiff_dirs.specs.Nearest.{closest}
use Rattle.tiff_dirs.proofs.walk.Dirs.closest_value.Given as goal

-- the best of what is left is the best of all
abbrev pub invariant-loop-i : goal.invariant-loop-i
invariant-loop-i l =
    let es = entries_in (slice_get l.self.dirs l.dir) in
    closest l.own l.best (flat_map (apart_of l.self.layout) (slice_range es l.i l.to))
    ≡ closest l.own l.initial.best (flat_map (apart_of l.self.layout) (slice_range es l.from l.to))
