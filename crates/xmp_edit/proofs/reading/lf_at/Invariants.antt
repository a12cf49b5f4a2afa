use Rattle.std.proofs.Common.{◌≡◌, ℕ, ◌<◌, get_or, false}
use Rattle.xmp_edit.specs.Lines.{is_lf}
use Rattle.xmp_edit.proofs.reading.lf_at.Given as goal

-- no LF stands before this place
abbrev pub invariant-loop-at : goal.invariant-loop-at
invariant-loop-at l = (k : ℕ) → k < l.at → is_lf (get_or l.text k 0) ≡ false
