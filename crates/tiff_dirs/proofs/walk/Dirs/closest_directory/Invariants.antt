use Rattle.std.proofs.Common.{◌≡◌, drop}
use Rattle.std.specs.List.{flat_map}
use Rattle.tiff_dirs.specs.Overlaps.{named_in}
use Rattle.tiff_dirs.specs.Nearest.{closest}
use Rattle.tiff_dirs.proofs.walk.Dirs.closest_directory.Given as goal

-- the best of what is left is the best of all
abbrev pub invariant-loop-dir : goal.invariant-loop-dir
invariant-loop-dir l =
    closest l.own l.best (flat_map (λ d. named_in l.self.layout d d.entries) (drop l.dir l.self.dirs))
    ≡ closest l.own l.initial.best (flat_map (λ d. named_in l.self.layout d d.entries) (drop 1 l.self.dirs))
