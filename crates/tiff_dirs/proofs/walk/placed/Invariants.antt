use Rattle.std.proofs.Common.{◌≡◌, map, take}
use Rattle.std.specs.List.{All}
use Rattle.tiff_dirs.specs.Kept.{IsPlaced}
use Rattle.tiff_dirs.proofs.walk.placed.Given as goal

abbrev pub invariant-loop-place : goal.invariant-loop-place
invariant-loop-place l = record {
  places : map (λ d. d.place) l.found.items ≡ take l.place-index l.reached;
  placed : All (IsPlaced l.layout l.len l.pieces) l.found.items;
}
