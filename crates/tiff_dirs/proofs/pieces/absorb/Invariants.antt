use Rattle.std.proofs.Common.{ℕ, ◌⊎◌, List}
use Rattle.std.specs.List.{All}
use Rattle.tiff_dirs.specs.Kept.{Covers, Holds, InPiece}
use Rattle.tiff_dirs.proofs.pieces.absorb.Given as goal

-- what was in the piece is, and what was in another is in one of the two
abbrev pub invariant-loop : goal.invariant-loop
invariant-loop l = record {
  holds : (file : List ℕ) → Holds file l.initial.run → All (Holds file) l.initial.pieces.items → Holds file l.run × All (Holds file) l.pieces.items;
  run : (from to : ℕ) → Covers l.initial.run from to → Covers l.run from to;
  inside : (from to : ℕ) → InPiece l.initial.pieces.items from to → InPiece l.pieces.items from to ⊎ Covers l.run from to;
}
