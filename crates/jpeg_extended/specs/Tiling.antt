-- Portions of one extended text, by what each says of itself (XMP Part 3, section 1.1.3.1), and how they tile it.
use Rattle.std.specs.Prelude.{◌≡◌, ℕ, ◌+◌, ◌<◌, ◌≤◌, ◌⊎◌, ◌==◌, if◌then◌else◌, Bool, IsTrue, List, [], ◌∷◌, length, IsPermutation, Some, None, Ok, Err}
use Rattle.std.specs.List.{list_all}
use Rattle.std.specs.declared.option.Option.{Option}
use Rattle.std.specs.declared.result.Result.{Result}
use Rattle.jpeg_extended.specs.declared.tiling.ExtStop.{ExtStop}
use Rattle.jpeg_extended.specs.declared.tiling.ExtStop.TheVariants.{TooLong, Gap, Memory}

-- the full length of the text, the place of the portion in it, and the length of the portion
pub record Extent : Type 0 where
  pub full : ℕ
  pub offset : ℕ
  pub len : ℕ

-- by the place and, at one place, by the length
abbrev pub Before : Extent → Extent → Type 0
Before a b = (a.offset < b.offset) ⊎ ((a.offset ≡ b.offset) × (a.len ≤ b.len))

abbrev pub RisesFrom : Extent → List Extent → Type 0
RisesFrom e [] = Unit {0}
RisesFrom e (f ∷ es) = Before e f × RisesFrom f es

-- none stands before the one in front of it
abbrev pub Rises : List Extent → Type 0
Rises [] = Unit {0}
Rises (e ∷ es) = RisesFrom e es

-- The portions in order. How those of one place and one length stand tells nothing: a law says that the answer is one.
pub record InOrder (es ordered : List Extent) : Type 0 where
  pub shuffled : IsPermutation es ordered
  pub rises : Rises ordered

-- Each begins where the ones before it end, from one place up to another. Such portions are in order.
abbrev pub Tiles : ℕ → ℕ → List Extent → Type 0
Tiles at end [] = at ≡ end
Tiles at end (e ∷ es) = (e.offset ≡ at) × Tiles (at + e.len) end es

-- the end of the longest beginning of a list that tiles
abbrev pub reach : ℕ → List Extent → ℕ
reach at [] = at
reach at (e ∷ es) = if e.offset == at then reach (at + e.len) es else at

-- the most bytes of an extended text
abbrev pub limit : ℕ
limit = 16777216

-- the full length that the first portion in the file says
abbrev pub first_full : List Extent → Option ℕ
first_full [] = None
first_full (e ∷ es) = Some e.full

-- whether they all say this full length
abbrev pub all_say : ℕ → List Extent → Bool
all_say full es = list_all (λ e. e.full == full) es

-- the portions tile a text of this length, which each of them says
pub record Tiled (es : List Extent) (full : ℕ) : Type 0 where
  pub some : 0 < length es
  pub within : full ≤ limit
  pub same : IsTrue (all_say full es)
  pub ordered : List Extent
  pub shuffled : IsPermutation es ordered
  pub tiles : Tiles 0 full ordered

-- the first portion in the file says a length over the limit
pub record IsTooLong (es : List Extent) (full : ℕ) : Type 0 where
  pub first : first_full es ≡ Some full
  pub over : limit < full

-- They don't tile the length that the first of them in the file says, or say another. The place is
-- the end of what tiles, whatever lengths they say.
pub record IsGap (es : List Extent) (place : ℕ) : Type 0 where
  pub full : ℕ
  pub first : first_full es ≡ Some full
  pub within : full ≤ limit
  pub ordered : List Extent
  pub order : InOrder es ordered
  pub reaches : place ≡ reach 0 ordered
  pub untiled : IsTrue (all_say full es) → Tiles 0 full ordered → ⊥

-- the first fault of some portions; only want of memory is free
abbrev pub IsExtFault : List Extent → ExtStop → Type 0
IsExtFault es (TooLong full) = IsTooLong es full
IsExtFault es (Gap place) = IsGap es place
IsExtFault es Memory = Unit {0}

-- the length of the text that the portions tile, None for none at all
abbrev pub TilingAnswer : List Extent → Result (Option ℕ) ExtStop → Type 0
TilingAnswer es (Ok None) = es ≡ []
TilingAnswer es (Ok (Some full)) = Tiled es full
TilingAnswer es (Err stop) = IsExtFault es stop
