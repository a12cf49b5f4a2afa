use Rattle.std.proofs.Common.{◌≡◌, drop}
use Rattle.std.specs.List.{position_from}
use Rattle.jpeg_relocation.specs.Pictures.{is_index, first_index}
use Rattle.jpeg_relocation.proofs.pictures.first_index.Given as goal

-- what is sought in the rest is what is sought in the whole
abbrev pub invariant-loop-i : goal.invariant-loop-i
invariant-loop-i l = position_from (λ r. is_index r.kind) l.i (drop l.i l.regions) ≡ first_index l.regions
