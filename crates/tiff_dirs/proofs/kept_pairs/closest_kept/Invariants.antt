use Rattle.std.proofs.Common.{◌≡◌, drop}
use Rattle.tiff_dirs.specs.Nearest.{closest}
use Rattle.tiff_dirs.specs.Pairs.{spans_by}
use Rattle.tiff_dirs.proofs.kept_pairs.closest_kept.Given as goal

-- the best of what is left is the best of all
abbrev pub invariant-loop-counted : goal.invariant-loop-counted
invariant-loop-counted l = closest l.own l.best (spans_by l.big l.pieces (drop l.counted-index l.pairs)) ≡ closest l.own l.initial.best (spans_by l.big l.pieces l.pairs)
