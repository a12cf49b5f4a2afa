-- What bytes end as once a part of them that was lent is given back.
use Rattle.std.specs.Prelude.{ℕ, List, ◌++◌, take, drop}
use Rattle.std.specs.Borrow.{Lends, Fml, MutBor, Array, u8}

-- the bytes with those from a place up to another replaced
abbrev pub replaced : List ℕ → ℕ → ℕ → List ℕ → List ℕ
replaced bytes start end part = take start bytes ++ (part ++ drop end bytes)

abbrev pub LendsPart : MutBor (List ℕ) → ℕ → ℕ → MutBor (List ℕ) → Fml
LendsPart bytes start end part = Lends (Array u8 0) (Array u8 0) bytes part (replaced bytes.now start end)
