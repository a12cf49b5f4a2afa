use Rattle.std.proofs.Common.{◌≡◌, ℕ, ◌<◌, get_or, false}
use Rattle.xmp_paths.specs.Grammar.{is_mark}
use Rattle.xmp_paths.proofs.spelling.mark_at.Given as goal

-- no mark stands before this place
abbrev pub invariant-loop-at : goal.invariant-loop-at
invariant-loop-at l = (k : ℕ) → k < l.at → is_mark (get_or l.text k 0) ≡ false
