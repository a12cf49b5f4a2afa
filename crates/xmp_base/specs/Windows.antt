-- What reading a part of a file, and putting bytes at the end of one, do to a desk.
use Rattle.std.specs.Prelude.{◌≡◌, ℕ, ◌+◌, ◌≤◌, List, ◌++◌, length, take, drop, IfOk, OnOk, All, MatchResult, Some, Ok, Err}
use Rattle.std.specs.declared.option.Option.{Option}
use Rattle.std.specs.declared.result.Result.{Result}
use Rattle.std.specs.FinMap.{get, insert}
use Rattle.xmp_base.specs.Device.{DeskState, Files, Told, Moved, Rose, SameFiles, NotFewer, bytes_of, len_of, OthersKeep}
use Rattle.xmp_base.specs.Whole.{MovedOnce}
use Rattle.xmp_base.specs.declared.windows.WindowStop.{WindowStop}
use Rattle.xmp_base.specs.declared.windows.WindowStop.TheVariants.{Device, Memory}
use Rattle.xmp_base.specs.declared.device.Failed.{Failed}

-- a range of this name among the places from start up to end
pub record IsInside (name : List ℕ) (start end : ℕ) (move : Moved) : Type 0 where
  pub of_name : move.0 ≡ name
  pub from_start : start ≤ move.1
  pub to_end : move.1 + move.2 ≤ end

-- a told list has grown by ranges of this name among these places
abbrev pub MovesInside : List ℕ → ℕ → ℕ → Option (List Moved) → Option (List Moved) → Type 0
MovesInside name start end old new = Told old (λ moves. (more : List Moved) × (new ≡ Some (moves ++ more)) × All (IsInside name start end) more)

-- some reads of this name, from start up to end
pub record ReadInside (s t : DeskState) (name : List ℕ) (start end : ℕ) : Type 0 where
  pub same : SameFiles s t
  pub counts : NotFewer s t
  pub lens : t.lens ≡ s.lens
  pub reads : MovesInside name start end s.reads t.reads

-- a slice was filled with the bytes of a file from a place on
pub record FillFrom (s t : DeskState) (name : List ℕ) (at : ℕ) (to : List ℕ) (result : Result (Unit {0}) Failed) : Type 0 where
  pub calls : ReadInside s t name at (at + length to)
  pub bytes : OnOk result (Told s.files (λ files. to ≡ take (length to) (drop at (bytes_of files name))))
  pub failed : MatchResult result (λ _. Unit {0}) (λ _. Rose s.faults t.faults)

-- each byte of a range was read once, and after an error each before some place of it
abbrev pub FilledOnce : {A E : Type 0} → Result A E → List ℕ → ℕ → ℕ → Option (List Moved) → Option (List Moved) → Type 0
FilledOnce (Ok _) name at len old new = MovedOnce name at (at + len) old new
FilledOnce (Err _) name at len old new = (done : ℕ) × (done ≤ len) × MovedOnce name at (at + done) old new

pub record WindowCall (s t : DeskState) (name : List ℕ) (at len : ℕ) (result : Result (List ℕ) WindowStop) : Type 0 where
  pub calls : ReadInside s t name at (at + len)
  pub once : FilledOnce result name at len s.reads t.reads
  pub size : IfOk result (λ bytes. length bytes ≡ len)
  pub bytes : IfOk result (λ bytes. Told s.files (λ files. bytes ≡ take len (drop at (bytes_of files name))))
  pub device : result ≡ Err Device → Rose s.faults t.faults
  -- memory is wanted before the device is used
  pub memory : result ≡ Err Memory → t ≡ s

-- this file alone has changed: where it held some bytes, it holds those and the piece
pub record Grown (old new : Files) (name piece : List ℕ) : Type 0 where
  pub grown : (bytes : List ℕ) → get old name ≡ Some bytes → get new name ≡ Some (bytes ++ piece)
  pub others : OthersKeep old new name

-- A part of the bytes, as a failure leaves it: a prefix, and after it at most `most` bytes that a
-- failed write left, together no longer than the bytes.
pub record PartOf (part bytes : List ℕ) (most : ℕ) : Type 0 where
  pub whole : List ℕ
  pub torn : List ℕ
  pub rest : List ℕ
  pub is : part ≡ whole ++ torn
  pub prefix : bytes ≡ whole ++ rest
  pub small : length torn ≤ most
  pub inside : length torn ≤ length rest

-- the file has grown by the bytes, and after a failure by a part of them
abbrev pub GrownBy : Result (Unit {0}) Failed → Files → Files → List ℕ → List ℕ → ℕ → Type 0
GrownBy (Ok _) old new name bytes most = Grown old new name bytes
GrownBy (Err _) old new name bytes most = (part : List ℕ) × PartOf part bytes most × Grown old new name part

-- The length has grown by the count, and after a failure by at most that.
abbrev pub LongerBy : Result (Unit {0}) Failed → DeskState → DeskState → List ℕ → ℕ → Type 0
LongerBy (Ok _) s t name count = t.lens ≡ insert s.lens name (len_of s name + count)
LongerBy (Err _) s t name count = (n : ℕ) × (t.lens ≡ insert s.lens name (len_of s name + n)) × (n ≤ count)

-- Bytes were put at the end of a file: `count` of them, where the files are told those that `bytes` says.
pub record Grows (s t : DeskState) (name : List ℕ) (bytes : Files → List ℕ) (count most : ℕ) (result : Result (Unit {0}) Failed) : Type 0 where
  pub counts : NotFewer s t
  pub wrote : MovesInside name (len_of s name) (len_of s name + count) s.wrote t.wrote
  pub lens : LongerBy result s t name count
  pub files : Told s.files (λ files. (now : Files) × (t.files ≡ Some now) × GrownBy result files now name (bytes files) most)
  pub failed : MatchResult result (λ _. Unit {0}) (λ _. Rose s.faults t.faults)

pub record AppendCall (s t : DeskState) (name piece : List ℕ) (result : Result (Unit {0}) Failed) : Type 0 where
  pub reads : t.reads ≡ s.reads
  pub grows : Grows s t name (λ _. piece) (length piece) (length piece) result

-- `len` bytes of a file, from `at` on, were put at the end of another
pub record CopyCall (s t : DeskState) (from : List ℕ) (at len : ℕ) (to : List ℕ) (most : ℕ) (result : Result (Unit {0}) Failed) : Type 0 where
  pub reads : MovesInside from at (at + len) s.reads t.reads
  pub grows : Grows s t to (λ files. take len (drop at (bytes_of files from))) len most result
