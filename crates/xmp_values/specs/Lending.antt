use Rattle.std.specs.Prelude.{ℕ, List, ◌++◌, length, take, drop, Option, slice_set}
use Rattle.std.specs.Borrow.{Lends, LendsIf, Fml, RattleType, MutBor, Array}
use Rattle.xmp_values.specs.contracts.sequence.Sequence.{the_row}

-- ws in the place of xs. A slice keeps its length, so this is ws
abbrev pub refilled : {X : Type 0} → List X → List X → List X
refilled xs ws = take (length xs) (ws ++ drop (length ws) xs)

module _ (T : RattleType) (s : MutBor (List T.Denot)) where
  -- the list ends with the item at a place replaced by the last value that the reference had
  abbrev pub lends_get : ℕ → Option (MutBor T.Denot) → Fml
  lends_get at r = LendsIf (the_row T) T s r (slice_set s.now at) s.now

  -- the list ends as the last items that the slice had
  abbrev pub lends_slice : MutBor (List T.Denot) → Fml
  lends_slice r = Lends (the_row T) (Array T 0) s r (refilled s.now)
