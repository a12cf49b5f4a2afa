-- A closed packet has a first fault of its XML, so a JPEG file with one is refused.
use Rattle.std.proofs.Common.{◌≡◌, ◌⊎◌, ◌∙◌, ℕ, suc, ◌+◌, ◌-◌, ◌<◌, ◌≤◌, Bool, true, false, cond, List, [], ◌∷◌, length, take, reverse, Some, Ok, Err, inl, inr, refl, ap, subst, arith}
use Rattle.std.specs.Prelude.{nat_eq, ◌==◌}
use Rattle.std.specs.List.{prefix_len, suffix_len}
use Rattle.std.proofs.lemmas.List.{reverse-append, length-reverse}
use Rattle.std.proofs.lemmas.List.Folds.{prefix_len-append}
use Rattle.std.proofs.lemmas.List.Sums.{prefix_len-le-length}
use Rattle.xmp_base.specs.Device.{put_at}
use Rattle.xmp_values.specs.declared.faults.Fault.{Fault}
use Rattle.xmp_values.specs.declared.faults.Part.TheVariants.{Main}
use Rattle.xmp_values.specs.declared.hints.Hint.{Hint}
use Rattle.xmp_values.specs.declared.rules.Rule.{Rule}
use Rattle.xmp_values.specs.Stops.{fault_at}
use Rattle.xml_grammar.specs.declared.elements.Element.{Element}
use Rattle.xml_grammar.specs.Documents.{IsDocument, IsFault}
use Rattle.xml_grammar.proofs.Gate.{gate}
use Rattle.xmp_packets.specs.Packets.{packet_text}
use Rattle.packet_exchange.specs.Closing.{Closed}
use Rattle.xmp_files.specs.declared.held.Need.{Need}
use Rattle.xmp_files.specs.Faults.{file_limit, packet_limit}
use Rattle.xmp_files.specs.Keeping.{Piece, Kept}
use Rattle.xmp_files.specs.Meanings.{Means}
use Rattle.xmp_files.specs.Opening.{Holds}
use Rattle.xmp_files.specs.Patching.{DocumentOrFault}
use Rattle.xmp_files.specs.Photographs.{IsPhotograph}
use Rattle.xmp_files.proofs.ExchangedPackets.{exchanged_kept, exchanged_loaded}

pub closed_some : (now : List ℕ) → Closed now → 0 < length now
closed_some [] h = absurd h
closed_some (first ∷ []) h = absurd h
closed_some (first ∷ second ∷ rest) h = omega arith

-- The text of a payload keeps a second byte that isn't 0.

abbrev zero_byte : ℕ → Bool
zero_byte byte = byte == 0

by_all : (all : Bool) (n k : ℕ) → k ≤ n → cond all (n + 0) k ≤ n
by_all true n k less = omega arith
by_all false n k less = less

few_zeros : (first : ℕ) (rest : List ℕ) → suffix_len zero_byte (first ∷ 63 ∷ rest) ≤ length rest
few_zeros first rest =
    let turned : List ℕ = reverse rest in
    let is : suffix_len zero_byte (first ∷ 63 ∷ rest) ≡ cond (nat_eq (prefix_len zero_byte turned) (length turned)) (length turned + 0) (prefix_len zero_byte turned) =
    ap (prefix_len zero_byte) (reverse-append (first ∷ 63 ∷ []) rest) ∙ prefix_len-append zero_byte turned (63 ∷ first ∷ []) in
    let within = by_all (nat_eq (prefix_len zero_byte turned) (length turned)) (length turned) (prefix_len zero_byte turned) (prefix_len-le-length zero_byte turned) in
    omega (arith, is, within, length-reverse rest)

take_two : (n : ℕ) (first second : ℕ) (rest : List ℕ) → 2 ≤ n → take n (first ∷ second ∷ rest) ≡ first ∷ second ∷ take (n - 2) rest
take_two n first second rest least = (let is : n ≡ suc (suc (n - 2)) = omega arith in ap (λ (k : ℕ). take k (first ∷ second ∷ rest)) is)

text_two : (first : ℕ) (rest : List ℕ) → packet_text (first ∷ 63 ∷ rest) ≡ first ∷ 63 ∷ take (length (first ∷ 63 ∷ rest) - suffix_len zero_byte (first ∷ 63 ∷ rest) - 2) rest
text_two first rest =
    let few = few_zeros first rest in
    take_two (length (first ∷ 63 ∷ rest) - suffix_len zero_byte (first ∷ 63 ∷ rest)) first 63 rest (omega (arith, few))

-- a fault of a text
abbrev HasFault : List ℕ → Type 0
HasFault text = (rule : Rule) × (place : ℕ) × Means text (Err (rule, place))

fault_by : (text : List ℕ) → ((root : Element) (hints : List Hint) → IsDocument text root hints → ⊥)
    → ((root : Element) × (hints : List Hint) × IsDocument text root hints) ⊎ ((rule : Rule) × (place : ℕ) × IsFault text rule place) → HasFault text
fault_by text none (inl d) = absurd (none d.0 d.1 d.2)
fault_by text none (inr f) = (f.0, f.1, inl f.2)

pub closed_fault : DocumentOrFault → (now : List ℕ) → Closed now → HasFault (packet_text now)
closed_fault decided [] h = absurd h
closed_fault decided (first ∷ []) h = absurd h
closed_fault decided (first ∷ second ∷ rest) h =
    let text_is : packet_text (first ∷ second ∷ rest) ≡ first ∷ 63 ∷ take (length (first ∷ 63 ∷ rest) - suffix_len zero_byte (first ∷ 63 ∷ rest) - 2) rest =
    ap (λ (c : ℕ). packet_text (first ∷ c ∷ rest)) h.1 ∙ text_two first rest in
    fault_by (packet_text (first ∷ second ∷ rest))
    (λ root hints d. h.0 (gate first (take (length (first ∷ 63 ∷ rest) - suffix_len zero_byte (first ∷ 63 ∷ rest) - 2) rest) root hints (subst (λ (l : List ℕ). IsDocument l root hints) text_is d)))
    (decided (packet_text (first ∷ second ∷ rest)))

-- the file is refused
pub photograph_refused : DocumentOrFault → (need : Need) (old : List ℕ) (kept : Kept) (p : IsPhotograph need old kept) (payload : Piece) (there : kept.payload ≡ Some payload)
    (now : List ℕ) (as_long : length now ≡ length payload.bytes) (some : 0 < length now) → length old ≤ file_limit → length now ≤ packet_limit → Closed now
    → (fault : Fault) × Holds (Some (put_at old payload.at now)) (Err fault)
photograph_refused decided need old kept p payload there now as_long some small short closed =
    let f = closed_fault decided now closed in
    let kept_now : Kept = exchanged_kept need old kept p payload there now as_long some in
    let fault : Fault = fault_at f.0 Main f.1 in (
      fault,
      (
        Ok kept_now,
        exchanged_loaded need old kept p payload there now as_long some small short (Err (f.0, f.1), f.2, refl),
        (Err fault, (Err (f.0, f.1), f.2, refl), refl),
      ),
    )
