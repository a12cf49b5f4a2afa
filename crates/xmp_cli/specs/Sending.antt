-- What sending a text does to a sink.
use Rattle.std.specs.Prelude.{◌≡◌, ℕ, ◌≤◌, List, ◌++◌, take, Some, OnOk, MatchResult}
use Rattle.std.specs.declared.result.Result.{Result}
use Rattle.xmp_base.specs.declared.device.Failed.{Failed}
use Rattle.xmp_base.specs.Device.{SinkState, Rose, Told}

-- some first bytes of the text were sent
abbrev pub SentSome : SinkState → SinkState → List ℕ → Type 0
SentSome o p text = Told o.sent (λ sent. (n : ℕ) × (p.sent ≡ Some (sent ++ take n text)))

-- a text was sent: whole, or a failure was counted
pub record SendAll (o p : SinkState) (text : List ℕ) (result : Result (Unit {0}) Failed) : Type 0 where
  pub count : o.faults ≤ p.faults
  pub plan : p.plan ≡ o.plan
  pub sent : OnOk result (Told o.sent (λ sent. p.sent ≡ Some (sent ++ text)))
  pub part : SentSome o p text
  pub failed : MatchResult result (λ _. Unit {0}) (λ _. Rose o.faults p.faults)

-- the first n bytes of a text were sent
pub record Sent (o p : SinkState) (text : List ℕ) (n : ℕ) : Type 0 where
  pub count : o.faults ≤ p.faults
  pub plan : p.plan ≡ o.plan
  pub sent : Told o.sent (λ sent. p.sent ≡ Some (sent ++ take n text))
