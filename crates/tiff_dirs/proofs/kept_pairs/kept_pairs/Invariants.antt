use Rattle.std.proofs.Common.{◌≡◌, map, take}
use Rattle.std.specs.List.{All}
use Rattle.tiff_dirs.specs.Pairs.{IsCounted, IsRanked, count_of}
use Rattle.tiff_dirs.proofs.kept_pairs.kept_pairs.Given as goal

-- the pairs so far
abbrev pub invariant-loop-pair : goal.invariant-loop-pair
invariant-loop-pair l = record {
  pairs : map (λ c. c.placed.pair) l.list.items ≡ take l.pair-index l.pairs;
  each : All (IsCounted l.big l.len l.pieces) l.list.items;
  ranked : IsRanked l.list.items;
  total : l.total ≡ count_of l.list.items;
}
