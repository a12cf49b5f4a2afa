use Rattle.std.proofs.Common.{◌≡◌, None}
use Rattle.tiff_dirs.specs.Nearest.{closest}
use Rattle.tiff_dirs.specs.Pictures.{spans_of}
use Rattle.tiff_dirs.specs.Faults.{pictures_fault}
use Rattle.tiff_dirs.specs.Pairs.{listed_from}
use Rattle.tiff_dirs.proofs.ranges.closest_range.Given as goal

-- the best of what is left is the best of all
abbrev pub invariant-loop-k : goal.invariant-loop-k
invariant-loop-k l = record {
  best : closest l.own l.best (spans_of (listed_from l.listed l.k)) ≡ closest l.own l.initial.best (spans_of (listed_from l.listed 0));
  clear : pictures_fault l.len (listed_from l.listed l.k) ≡ None;
}
