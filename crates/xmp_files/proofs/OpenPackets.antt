-- A packet that may be written, and one that is written, begins as an instruction.
use Rattle.std.proofs.Common.{◌≡◌, ◌∙◌, ℕ, ◌<◌, true, List, [], ◌∷◌, ◌++◌, length, take, drop, IsTrue, refl, length-append, ap, sym, subst, arith}
use Rattle.std.specs.Prelude.{nat_eq, codes}
use Rattle.std.specs.List.{starts_with}
use Rattle.std.proofs.lemmas.Slice.Eq.{starts_is}
use Rattle.std.proofs.lemmas.Bool.{and_parts}
use Rattle.std.proofs.lemmas.Bool.Decides.{Decides-eqb}
use Rattle.std.proofs.lemmas.List.{take-append-drop}
use Rattle.xmp_values.specs.declared.hints.Hint.{Hint}
use Rattle.xmp_tree.specs.Parts.{Parts}
use Rattle.xmp_packets.specs.Packets.{is_writable, packet_text}
use Rattle.xmp_write.specs.declared.forms.Form.{Form}
use Rattle.xmp_write.specs.WrittenPackets.{packet}
use Rattle.packet_exchange.specs.Closing.{is_open}

-- a payload whose packet may be written begins as one
taken_open : (n : ℕ) (l : List ℕ) → starts_with nat_eq (take n l) (codes "<?xpacket begin=") ≡ true → IsTrue (is_open l)
taken_open n l h =
    let front : take n l ≡ codes "<?xpacket begin=" ++ drop 16 (take n l) = (starts_is Decides-eqb (take n l) (codes "<?xpacket begin=") true (sym h)).0 refl in
    let whole : l ≡ (codes "<?xpacket begin=" ++ drop 16 (take n l)) ++ drop n l = sym (take-append-drop n l) ∙ ap (λ (k : List ℕ). k ++ drop n l) front in
    subst (λ (k : List ℕ). IsTrue (is_open k)) (sym whole) refl

pub writable_open : (payload : List ℕ) → is_writable payload ≡ true → IsTrue (is_open payload)
writable_open payload h =
    let parts = and_parts (starts_with nat_eq (packet_text payload) (codes "<?xpacket begin=")) _ h in
    taken_open _ payload parts.0

pub packet_open : (ps : List Hint) (t : Parts) (form : Form) (len : ℕ) → IsTrue (is_open (packet ps t form len))
unfolding packet
packet_open ps t form len = refl

-- and is longer than a word of directories
taken_long : (n : ℕ) (l : List ℕ) → starts_with nat_eq (take n l) (codes "<?xpacket begin=") ≡ true → 8 < length l
taken_long n l h =
    let front : take n l ≡ codes "<?xpacket begin=" ++ drop 16 (take n l) = (starts_is Decides-eqb (take n l) (codes "<?xpacket begin=") true (sym h)).0 refl in
    let whole : l ≡ (codes "<?xpacket begin=" ++ drop 16 (take n l)) ++ drop n l = sym (take-append-drop n l) ∙ ap (λ (k : List ℕ). k ++ drop n l) front in
    let outer = length-append (codes "<?xpacket begin=" ++ drop 16 (take n l)) (drop n l) in
    let inner = length-append (codes "<?xpacket begin=") (drop 16 (take n l)) in
    let sixteen : length (codes "<?xpacket begin=") ≡ 16 = refl in
    omega (arith, ap (λ (k : List ℕ). length k) whole, outer, inner, sixteen)

pub writable_long : (payload : List ℕ) → is_writable payload ≡ true → 8 < length payload
writable_long payload h =
    let parts = and_parts (starts_with nat_eq (packet_text payload) (codes "<?xpacket begin=")) _ h in
    taken_long _ payload parts.0

-- such a payload isn't empty
open_some : (payload : List ℕ) → IsTrue (is_open payload) → 0 < length payload
open_some [] h = absurd (cc h)
open_some (c ∷ cs) h = omega arith

pub writable_some : (payload : List ℕ) → is_writable payload ≡ true → 0 < length payload
writable_some payload h = open_some payload (writable_open payload h)
