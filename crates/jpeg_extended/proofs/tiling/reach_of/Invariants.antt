use Rattle.std.proofs.Common.{◌≡◌, ◌↔◌, map, drop, ℕ}
use Rattle.jpeg_extended.specs.Heads.{extent_of}
use Rattle.jpeg_extended.specs.Tiling.{Tiles, reach}
use Rattle.jpeg_extended.proofs.tiling.reach_of.Given as goal

abbrev pub invariant-loop-head : goal.invariant-loop-head
invariant-loop-head l = record {
  place : reach 0 (map extent_of l.heads) ≡ reach l.at (drop l.head-index (map extent_of l.heads));
  all : (end : ℕ) → Tiles l.at end (drop l.head-index (map extent_of l.heads)) ↔ Tiles 0 end (map extent_of l.heads);
}
