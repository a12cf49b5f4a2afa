-- What the readers of a payload returned, beside what the payload means.
use Rattle.std.specs.Prelude.{ℕ, List, Some, Ok, Err}
use Rattle.std.specs.declared.result.Result.{Result}
use Rattle.xmp_values.specs.declared.stops.PlaceStop.{PlaceStop}
use Rattle.xmp_values.specs.Stops.{place_of, fault_of, Answers}
use Rattle.xmp_values.specs.declared.stops.FaultStop.{FaultStop}
use Rattle.xmp_rdf.specs.declared.meanings.Meaning.{Meaning}
use Rattle.xmp_files.specs.declared.held.Extended.TheVariants.{Joined}
use Rattle.xmp_files.specs.declared.opening.Opened.{Opened}
use Rattle.xmp_files.specs.Keeping.{Kept}
use Rattle.xmp_files.specs.Meanings.{Means}
use Rattle.xmp_files.specs.Opening.{IsJoined, IsJoinedTo, IsOpened}

-- what a text means was answered; want of memory is free
abbrev pub IsMeant : List ℕ → Result Meaning PlaceStop → Type 0
IsMeant text result = Answers place_of result (λ meaning. Means text (Ok meaning)) (λ fault. Means text (Err fault))

-- the answer is a step of what is kept; want of memory is free
abbrev pub OpenAnswer : Kept → Result Opened FaultStop → Type 0
OpenAnswer kept result = Answers fault_of result (λ opened. IsOpened kept (Ok opened)) (λ fault. IsOpened kept (Err fault))

-- a text that was joined to a meaning is a step of it; want of memory is free
abbrev pub TextAnswer : List ℕ → Meaning → Result Opened FaultStop → Type 0
TextAnswer text meaning result =
    Answers fault_of result (λ opened. IsJoinedTo (Some (Joined text)) meaning (Ok opened)) (λ fault. IsJoinedTo (Some (Joined text)) meaning (Err fault))

-- what is joined to a meaning is a step of what is kept; want of memory is free
abbrev pub JoinAnswer : Kept → Meaning → Result Opened FaultStop → Type 0
JoinAnswer kept meaning result = Answers fault_of result (λ opened. IsJoined kept meaning (Ok opened)) (λ fault. IsJoined kept meaning (Err fault))
