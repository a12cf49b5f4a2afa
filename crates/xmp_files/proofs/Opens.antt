-- What a file means, from what the readers of its payload returned.
use Rattle.std.proofs.Common.{◌≡◌, ℕ, true, sym, ap, ◌∙◌, List, length, take, Ok, Err, Some, None, subst, refl}
use Rattle.std.specs.declared.option.Option.{Option}
use Rattle.std.specs.declared.result.Result.{Result}
use Rattle.std.specs.Option.{option_map}
use Rattle.std.proofs.lemmas.List.{length-take, take_min}
use Rattle.xmp_values.specs.declared.faults.Part.TheVariants.{Main, Extended as InExtended}
use Rattle.xmp_values.specs.declared.rules.Rule.{Rule}
use Rattle.xmp_values.specs.declared.rules.Rule.TheVariants.{Twice}
use Rattle.xmp_values.specs.declared.stops.PlaceStop.{PlaceStop}
use Rattle.xmp_values.specs.declared.stops.PlaceStop.TheVariants as places
use Rattle.xmp_values.specs.Stops.{stop_in, fault_at, fault_of, Answers}
use Rattle.xmp_rdf.specs.declared.meanings.Meaning.{Meaning}
use Rattle.xmp_packets.specs.Packets.{packet_text}
use Rattle.xmp_files.specs.declared.opening.Opened.{Opened}
use Rattle.xmp_values.specs.declared.faults.Fault.{Fault}
use Rattle.xmp_values.specs.declared.stops.FaultStop.{FaultStop}
use Rattle.xmp_values.specs.declared.stops.FaultStop.TheVariants as faults
use Rattle.rdf_forms.specs.Merging.{merged}
use Rattle.xmp_files.specs.declared.held.Extended.{Extended}
use Rattle.xmp_files.specs.declared.held.Extended.TheVariants as texts
use Rattle.xmp_files.specs.Faults.{over_extended, gap_at}
use Rattle.xmp_files.specs.Keeping.{Piece, Kept}
use Rattle.xmp_files.specs.Meanings.{Means, OpensMain, in_main, no_meaning}
use Rattle.xmp_files.specs.Opening.{IsJoinedTo, alone, with_both}
use Rattle.xmp_files.specs.Openings.{IsMeant, TextAnswer, JoinAnswer, OpenAnswer}

-- the first bytes of a list, as many as a beginning of it has
pub take_as_many : (m n : ℕ) (xs : List ℕ) → n ≡ length (take m xs) → take n xs ≡ take m xs
take_as_many m n xs is = ap (λ (k : ℕ). take k xs) (is ∙ length-take m xs) ∙ take_min m xs

-- the text of the payload, and what it means
main_opens : (payload : Option Piece) (text : List ℕ) (read : Result Meaning (Rule × ℕ)) → Some text ≡ option_map (λ (p : Piece). packet_text p.bytes) payload
    → Means text read → OpensMain payload (in_main read)
main_opens None text read is means = absurd (let bad : Some text ≡ None = is in cc)
main_opens (Some piece) text read is means =
    let same : text ≡ packet_text piece.bytes = let e : Some text ≡ Some (packet_text piece.bytes) = is in cc in
    (read, subst (λ (t : List ℕ). Means t read) same means, refl)

-- what is joined to what the main packet means
joined_opens : (kept : Kept) (meaning : Meaning) (result : Result Opened FaultStop) → OpensMain kept.payload (Ok meaning) → JoinAnswer kept meaning result → OpenAnswer kept result
joined_opens kept meaning (Ok opened) opens h = (Ok meaning, opens, h)
joined_opens kept meaning (Err (faults.Fault fault)) opens h = (Ok meaning, opens, h)
joined_opens kept meaning (Err faults.Memory) opens h = tt

pub read_opens : (kept : Kept) (text : List ℕ) (meaning : Meaning) (result : Result Opened FaultStop) → Some text ≡ option_map (λ (p : Piece). packet_text p.bytes) kept.payload
    → IsMeant text (Ok meaning) → JoinAnswer kept meaning result → OpenAnswer kept result
read_opens kept text meaning result is means h = joined_opens kept meaning result (main_opens kept.payload text (Ok meaning) is means) h

pub stop_opens : (kept : Kept) (text : List ℕ) (stop : PlaceStop) → Some text ≡ option_map (λ (p : Piece). packet_text p.bytes) kept.payload
    → IsMeant text (Err stop) → OpenAnswer kept (Err (stop_in stop Main))
stop_opens kept text (places.Fault rule place) is means =
    (in_main (Err (rule, place)), main_opens kept.payload text (Err (rule, place)) is means, refl)
stop_opens kept text places.Memory is means = tt

none_opens : (payload : Option Piece) → None ≡ option_map (λ (p : Piece). packet_text p.bytes) payload → OpensMain payload (Ok no_meaning)
none_opens None is = refl
none_opens (Some piece) is = absurd (let bad : None ≡ Some (packet_text piece.bytes) = is in cc)

pub empty_opens : (kept : Kept) (meaning : Meaning) (result : Result Opened FaultStop) → None ≡ option_map (λ (p : Piece). packet_text p.bytes) kept.payload → meaning ≡ no_meaning
    → JoinAnswer kept meaning result → OpenAnswer kept result
empty_opens kept meaning result is empty h =
    joined_opens kept meaning result (subst (λ (m : Meaning). OpensMain kept.payload (Ok m)) (sym empty) (none_opens kept.payload is)) h

-- The extended text.

-- what was read of it is merged to what the main packet means
module _ (text : List ℕ) (main : Meaning) where
  pub text_stopped : (stop : PlaceStop) → IsMeant text (Err stop) → TextAnswer text main (Err (stop_in stop InExtended))
  text_stopped (places.Fault rule place) means = (Err (rule, place), means, refl)
  text_stopped places.Memory means = tt

  module _ (more : Meaning) (means : IsMeant text (Ok more)) where
    pub text_merged : (both : Meaning) → merged main more ≡ Ok both → TextAnswer text main (Ok (record { meaning = both; joined = true }))
    text_merged both is = (Ok more, means, ap with_both (sym is))

    pub text_twice : (place : ℕ) → merged main more ≡ Err place → TextAnswer text main (Err (faults.Fault (fault_at Twice InExtended place)))
    text_twice place is = (Ok more, means, ap with_both (sym is))

-- the text of a file is joined as it is
module _ (main : Meaning) where
  pub none_joined : (extended : Option Extended) → None ≡ extended → IsJoinedTo extended main (Ok (alone main))
  none_joined None is = refl
  none_joined (Some other) is = absurd (cc is)

  pub text_joined : (extended : Option Extended) (text : List ℕ) (result : Result Opened FaultStop) → Some (texts.Joined text) ≡ extended → TextAnswer text main result
      → Answers fault_of result (λ opened. IsJoinedTo extended main (Ok opened)) (λ fault. IsJoinedTo extended main (Err fault))
  text_joined extended text result is h =
      subst (λ (e : Option Extended). Answers fault_of result (λ opened. IsJoinedTo e main (Ok opened)) (λ fault. IsJoinedTo e main (Err fault))) is h

  pub long_joined : (extended : Option Extended) (full : ℕ) (fault : Fault) → Some (texts.TooLong full) ≡ extended → fault ≡ over_extended full → IsJoinedTo extended main (Err fault)
  long_joined extended full fault is same =
      subst (λ (e : Option Extended). IsJoinedTo e main (Err fault)) is (ap (λ (f : Fault). let r : Result Opened Fault = Err f in r) same)

  pub gap_joined : (extended : Option Extended) (place : ℕ) (fault : Fault) → Some (texts.Gap place) ≡ extended → fault ≡ gap_at place → IsJoinedTo extended main (Err fault)
  gap_joined extended place fault is same =
      subst (λ (e : Option Extended). IsJoinedTo e main (Err fault)) is (ap (λ (f : Fault). let r : Result Opened Fault = Err f in r) same)
