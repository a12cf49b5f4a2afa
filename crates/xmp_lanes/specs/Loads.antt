-- What one load of 32 lanes tells. None of this need be believed: private calls alone say it.
use Rattle.std.specs.Prelude.{ℕ, ◌==◌, if◌then◌else◌}
use Rattle.std.specs.Int.{trailing_zeros, w64}

-- the place of the lowest bit that is set, or the number of lanes
abbrev pub first_set : ℕ → ℕ
first_set mask = if mask == 0 then 32 else trailing_zeros w64 mask
