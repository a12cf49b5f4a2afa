use Rattle.std.proofs.Common.{◌≡◌, ◌<◌, length, None}
use Rattle.std.specs.List.{slice_get}
use Rattle.tiff_dirs.specs.Pictures.{spans_of}
use Rattle.tiff_dirs.specs.Faults.{pictures_fault}
use Rattle.tiff_dirs.specs.Pairs.{listed_from}
use Rattle.tiff_dirs.proofs.ranges.counted_range.Given as goal

-- the range that is sought is one of those that are left
abbrev pub invariant-loop-k : goal.invariant-loop-k
invariant-loop-k l = record {
  here : slice_get (spans_of (listed_from l.listed l.k)) l.left ≡ slice_get (spans_of (listed_from l.listed 0)) l.n;
  within : l.left < length (listed_from l.listed l.k);
  clear : pictures_fault l.len (listed_from l.listed l.k) ≡ None;
}
