use Rattle.std.proofs.Common.{◌≡◌, ◌+◌, drop}
use Rattle.std.specs.List.{slice_get}
use Rattle.tiff_dirs.specs.Tiff.{entries_in}
use Rattle.tiff_relocation.specs.Relocation.{entries_before}
use Rattle.tiff_relocation.proofs.relocation.entries_before.Given as goal

-- none of the entries before has a greater tag
abbrev pub invariant-loop-i : goal.invariant-loop-i
invariant-loop-i l =
    let es = entries_in (slice_get l.dirs.dirs 0) in
    l.i + entries_before (drop l.i es) ≡ entries_before es
