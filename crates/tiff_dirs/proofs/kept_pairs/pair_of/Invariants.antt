use Rattle.std.proofs.Common.{◌-◌, ◌<◌, ◌≤◌, length, take}
use Rattle.tiff_dirs.specs.Pairs.{count_of}
use Rattle.tiff_dirs.proofs.kept_pairs.pair_of.Given as goal

-- the range stands from the low place on, and before the high one
abbrev pub invariant-loop-high : goal.invariant-loop-high
invariant-loop-high l = record {
  order : l.low < l.high;
  inside : l.high ≤ length l.pairs;
  least : count_of (take l.low l.pairs) ≤ l.i;
  most : l.i < count_of (take l.high l.pairs);
}

abbrev pub decreases-loop-high : goal.decreases-loop-high
decreases-loop-high l = l.high - l.low
