use Rattle.std.proofs.Common.{◌≡◌, take}
use Rattle.std.specs.List.{list_any}
use Rattle.jpeg_relocation.specs.Relocation.{kept}
use Rattle.jpeg_relocation.specs.Pictures.{is_index, pictures_len}
use Rattle.jpeg_relocation.specs.Roles.{IsNext}
use Rattle.jpeg_relocation.proofs.pictures.kept_len.Given as goal

-- the sum over the regions so far
abbrev pub invariant-loop-i : goal.invariant-loop-i
invariant-loop-i l = record {
  next : IsNext l.joined l.regions l.i l.portion;
  seen : l.seen ≡ list_any (λ r. is_index r.kind) (kept l.joined (take l.i l.regions));
  sum : l.sum ≡ pictures_len (kept l.joined (take l.i l.regions));
}
