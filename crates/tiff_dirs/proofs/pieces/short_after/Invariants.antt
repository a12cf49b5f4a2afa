use Rattle.std.proofs.Common.{◌≡◌}
use Rattle.tiff_dirs.proofs.pieces.short_after.Given as goal

-- no piece was taken out
abbrev pub invariant-loop-k : goal.invariant-loop-k
invariant-loop-k l = l.pieces.items ≡ l.initial.pieces.items
