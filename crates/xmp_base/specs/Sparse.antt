-- A desk with one file, most of which is zeros.
use Rattle.std.specs.Prelude.{ℕ, List, [], ◌∷◌, cond, nat_le, slice_get, ◌-◌, None}
use Rattle.std.specs.declared.option.Option.{Option}
use Rattle.std.specs.Option.{unwrap_or}
use Rattle.std.specs.FinMap.{empty, insert}
use Rattle.xmp_base.specs.Device.{DeskState}

-- The name and the length of the file, and its pieces by their places, in the order in which they were stated.
pub record SparseFile : Type 0 where
  pub name : List ℕ
  pub size : ℕ
  pub pieces : List (ℕ × List ℕ)
  pub faults : ℕ
  pub misses : ℕ

-- it tells the length and no bytes, and knows its file
abbrev pub sparse_state : SparseFile → DeskState
sparse_state s = record {
  files = None;
  lens = insert empty s.name s.size;
  reads = None;
  wrote = None;
  faults = s.faults;
  misses = s.misses;
  plan = [];
}

-- the byte of a piece at this place of the file, if it covers the place
abbrev pub piece_byte : ℕ × List ℕ → ℕ → Option ℕ
piece_byte piece place = cond (nat_le piece.0 place) (slice_get piece.1 (place - piece.0)) None

-- the byte of the last piece that covers the place, else the given one
abbrev pub byte_over : List (ℕ × List ℕ) → ℕ → ℕ → ℕ
byte_over [] place byte = byte
byte_over (piece ∷ pieces) place byte = byte_over pieces place (unwrap_or (piece_byte piece place) byte)

-- the byte of the file at a place: zero where no piece covers it
abbrev pub byte_at : SparseFile → ℕ → ℕ
byte_at s place = byte_over s.pieces place 0
