use Rattle.std.proofs.Common.{◌≤◌, length, drop}
use Rattle.xmp_values.specs.HintMaps.{HasSpaces}
use Rattle.xmp_values.proofs.hint_maps.space_map.Given as goal

abbrev pub invariant-loop-at : goal.invariant-loop-at
invariant-loop-at l = record {
  within : l.at ≤ length l.hints;
  has : HasSpaces l.map (drop l.at l.hints);
}

abbrev pub decreases-loop-at : goal.decreases-loop-at
decreases-loop-at l = l.at
