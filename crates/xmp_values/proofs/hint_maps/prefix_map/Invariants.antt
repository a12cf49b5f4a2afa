use Rattle.std.proofs.Common.{◌≤◌, length, drop}
use Rattle.xmp_values.specs.HintMaps.{HasPrefixes}
use Rattle.xmp_values.proofs.hint_maps.prefix_map.Given as goal

abbrev pub invariant-loop-at : goal.invariant-loop-at
invariant-loop-at l = record {
  within : l.at ≤ length l.hints;
  has : HasPrefixes l.map (drop l.at l.hints);
}

abbrev pub decreases-loop-at : goal.decreases-loop-at
decreases-loop-at l = l.at
