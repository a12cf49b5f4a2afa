use Rattle.std.proofs.Common.{◌≡◌, ◌+◌, drop}
use Rattle.std.specs.List.{slice_get}
use Rattle.tiff_dirs.specs.Tiff.{entries_in}
use Rattle.tiff_dirs.specs.Overlaps.{place_of}
use Rattle.tiff_dirs.proofs.walk.Dirs.place_of.Given as goal

-- none of the entries before has the tag
abbrev pub invariant-loop-i : goal.invariant-loop-i
invariant-loop-i l =
    let es = entries_in (slice_get l.self.dirs 0) in
    l.i + place_of l.tag (drop l.i es) ≡ place_of l.tag es
