-- What the head of a portion says, and its bytes among those that are kept.
use Rattle.std.specs.Prelude.{ℕ, ◌+◌, ◌≤◌, List, [], ◌∷◌, length, take, drop, All, Some, None}
use Rattle.std.specs.declared.option.Option.{Option}
use Rattle.jpeg_extended.specs.declared.tiling.Head.{Head}
use Rattle.jpeg_extended.specs.Tiling.{Extent}
use Rattle.jpeg_extended.specs.Portions.{Portion}

abbrev pub extent_of : Head → Extent
extent_of h = record { full = h.full; offset = h.offset; len = h.len }

abbrev pub bytes_in : List ℕ → Head → List ℕ
bytes_in kept h = take h.len (drop h.at kept)

abbrev pub portion_in : List ℕ → Head → Portion
portion_in kept h = record { full = h.full; offset = h.offset; bytes = bytes_in kept h }

-- the bytes of each are kept
abbrev pub AreKept : List ℕ → List Head → Type 0
AreKept kept hs = All (λ h. h.at + h.len ≤ length kept) hs

-- what a head that was read says, if one was
abbrev pub extents_in : Option Head → List Extent
extents_in None = []
extents_in (Some h) = extent_of h ∷ []
