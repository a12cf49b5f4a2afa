-- What exchanging a packet in its place leaves, however it ends.
use Rattle.std.specs.Prelude.{◌≡◌, ◌≢◌, ◌⊎◌, ℕ, ◌+◌, nat_eq, All, Bool, List, [], ◌∷◌, ◌++◌, length, codes, MatchResult, Some, Ok, Err}
use Rattle.std.specs.declared.option.Option.{Option}
use Rattle.std.specs.declared.result.Result.{Result}
use Rattle.std.specs.List.{starts_with}
use Rattle.xmp_base.specs.Device.{DeskState, Moved, Told, Rose}
use Rattle.xmp_base.specs.Windows.{IsInside}
use Rattle.xmp_lanes.specs.Runs.{same_run}
use Rattle.xmp_base.specs.Exchange.{Exchanged}
use Rattle.xmp_base.specs.declared.device.Failed.{Failed}

-- a payload that begins with an instruction (XML 1.0, production 16), as each packet with a wrapper does
abbrev pub is_open : List ℕ → Bool
is_open payload = starts_with nat_eq payload (codes "<?")

-- a payload whose second byte is `?` and whose first one isn't `<`: no document of XML begins so
abbrev pub Closed : List ℕ → Type 0
Closed [] = ⊥
Closed (first ∷ []) = ⊥
Closed (first ∷ second ∷ rest) = (first ≢ 0x3C) × (second ≡ 0x3F)

-- the payload is the new one, and after a failure the old one, the new one, or closed
abbrev pub Left : Result (Unit {0}) Failed → List ℕ → List ℕ → List ℕ → Type 0
Left (Ok _) old new now = now ≡ new
Left (Err _) old new now = (now ≡ old) ⊎ (now ≡ new) ⊎ Closed now

-- a write within the first byte of a payload of this size, or within its bytes from a place on
abbrev pub IsFirstOrFrom : List ℕ → ℕ → ℕ → ℕ → Moved → Type 0
IsFirstOrFrom name at from size move = IsInside name at (at + 1) move ⊎ IsInside name (at + from) (at + size) move

-- a told list has grown by such writes
abbrev pub WritesFrom : List ℕ → ℕ → ℕ → ℕ → Option (List Moved) → Option (List Moved) → Type 0
WritesFrom name at from size old new = Told old (λ moves. (more : List Moved) × (new ≡ Some (moves ++ more)) × All (IsFirstOrFrom name at from size) more)

-- the writes of an exchange: of the first byte, or of those from the first difference of the two payloads on
abbrev pub ExchangeWrites : List ℕ → ℕ → List ℕ → List ℕ → Option (List Moved) → Option (List Moved) → Type 0
ExchangeWrites name at old new = WritesFrom name at (same_run old new) (length new)

-- What the call does to a desk: in the payload's range stands what is said above, if the old payload stood there; all other
-- bytes are the old ones, each write lies within the range, and a failure was counted.
pub record ExchangeCall (s t : DeskState) (name : List ℕ) (at : ℕ) (old new : List ℕ) (result : Result (Unit {0}) Failed) : Type 0 where
  pub payload : Exchanged s t name at (length new) (λ was now. was ≡ old → Left result old new now)
  -- but for the first byte nothing is written of what both payloads begin with
  pub writes : ExchangeWrites name at old new s.wrote t.wrote
  -- and nothing at all of a payload that stays
  pub idle : old ≡ new → t ≡ s
  pub failed : MatchResult result (λ _. Unit {0}) (λ _. Rose s.faults t.faults)
