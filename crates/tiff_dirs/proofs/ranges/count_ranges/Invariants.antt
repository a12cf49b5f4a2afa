use Rattle.std.proofs.Common.{◌≡◌, ◌+◌, ◌≤◌, length}
use Rattle.tiff_dirs.specs.Faults.{pictures_fault}
use Rattle.tiff_dirs.specs.Pairs.{listed_from}
use Rattle.tiff_dirs.proofs.ranges.count_ranges.Given as goal

-- those that are left are the rest, with what is left of their faults
abbrev pub invariant-loop-k : goal.invariant-loop-k
invariant-loop-k l = record {
  few : l.shown ≤ l.k;
  count : l.shown + length (listed_from l.listed l.k) ≡ length (listed_from l.listed 0);
  fault : pictures_fault l.len (listed_from l.listed l.k) ≡ pictures_fault l.len (listed_from l.listed 0);
}
