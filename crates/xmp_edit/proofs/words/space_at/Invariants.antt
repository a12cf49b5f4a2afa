use Rattle.std.proofs.Common.{◌≡◌, ℕ, ◌<◌, get_or, false}
use Rattle.xmp_edit.specs.Lines.{is_space}
use Rattle.xmp_edit.proofs.words.space_at.Given as goal

-- no space stands before this place
abbrev pub invariant-loop-at : goal.invariant-loop-at
invariant-loop-at l = (k : ℕ) → k < l.at → is_space (get_or l.text k 0) ≡ false
