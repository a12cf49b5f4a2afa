use Rattle.std.proofs.Common.{◌≡◌, drop}
use Rattle.std.specs.List.{slice_get}
use Rattle.tiff_dirs.specs.Pictures.{first_of_tag}
use Rattle.tiff_dirs.specs.Tiff.{entries_in}
use Rattle.tiff_dirs.proofs.walk.Dirs.first_tag.Given as goal

-- what is sought in the rest is what is sought in the whole
abbrev pub invariant-loop-i : goal.invariant-loop-i
invariant-loop-i l =
    let es = entries_in (slice_get l.self.dirs 0) in
    first_of_tag l.tag (drop l.i es) ≡ first_of_tag l.tag es
