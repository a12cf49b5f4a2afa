-- What exchanging bytes inside a file that is there does to a desk.
use Rattle.std.specs.Prelude.{◌≡◌, ℕ, ◌+◌, ◌-◌, ◌≤◌, ◌<◌, ◌⊎◌, List, length, take, drop, MatchResult, Some, Ok, Err}
use Rattle.std.specs.declared.option.Option.{Option}
use Rattle.std.specs.declared.result.Result.{Result}
use Rattle.std.specs.FinMap.{get, insert}
use Rattle.xmp_base.specs.Device.{DeskState, Files, Moved, Told, Rose, NotFewer, put_at, told_push}
use Rattle.xmp_base.specs.Whole.{MovedOnce}
use Rattle.xmp_base.specs.Windows.{MovesInside}
use Rattle.xmp_base.specs.declared.device.Failed.{Failed}

-- the file had these bytes, and in the range from `at` on it now has others, as many, of which Now
-- holds; all other bytes and files are the old ones
pub record Holding (t : DeskState) (files : Files) (name : List ℕ) (at size : ℕ) (bytes : List ℕ) (Now : List ℕ → List ℕ → Type 0) : Type 0 where
  pub now : List ℕ
  pub full : length now ≡ size
  pub is : Now (take size (drop at bytes)) now
  pub left : t.files ≡ Some (insert files name (put_at bytes at now))

-- Writes inside one range of one file. Now says what the range holds, from what it held.
pub record Exchanged (s t : DeskState) (name : List ℕ) (at size : ℕ) (Now : List ℕ → List ℕ → Type 0) : Type 0 where
  pub reads : t.reads ≡ s.reads
  pub counts : NotFewer s t
  pub lens : t.lens ≡ s.lens
  pub wrote : MovesInside name at (at + size) s.wrote t.wrote
  pub files : Told s.files (λ files. (bytes : List ℕ) → get files name ≡ Some bytes → at + size ≤ length bytes → Holding t files name at size bytes Now)

-- The range holds the piece. After a failure its first `done` bytes are in place, and after them
-- what one failed write left.
abbrev pub IsPut : Result (Unit {0}) Failed → ℕ → List ℕ → List ℕ → Type 0
IsPut (Ok _) done piece now = now ≡ piece
IsPut (Err _) done piece now = (done < length piece) × (take done now ≡ take done piece)

-- The writes follow one another up to the end, and after a failure up to a place before it. After
-- that a failed write may be recorded, which is one of all that was left.
abbrev pub WroteOnce : Result (Unit {0}) Failed → ℕ → List ℕ → ℕ → ℕ → Option (List Moved) → Option (List Moved) → Type 0
WroteOnce (Ok _) done name at size old new = MovedOnce name at (at + size) old new
WroteOnce (Err _) done name at size old new =
    (mid : Option (List Moved)) × MovedOnce name at (at + done) old mid × ((new ≡ mid) ⊎ (new ≡ told_push mid (name, at + done, size - done)))

-- A piece was put inside a file. `done` counts the bytes that were put before a failure.
pub record PutCall (s t : DeskState) (name : List ℕ) (at : ℕ) (piece : List ℕ) (result : Result (Unit {0}) Failed) : Type 0 where
  pub done : ℕ
  pub put : Exchanged s t name at (length piece) (λ was now. IsPut result done piece now)
  pub once : WroteOnce result done name at (length piece) s.wrote t.wrote
  pub failed : MatchResult result (λ _. Unit {0}) (λ _. Rose s.faults t.faults)
