-- The parts of a relocated TIFF file, as the code makes them.
use Rattle.std.proofs.Common.{◌≡◌, ◌∙◌, ℕ, ◌+◌, ◌-◌, Bool, true, false, if◌then◌else◌, List, [], ◌∷◌, ◌++◌, length, take, drop, refl, sym, ap, arith, append_assoc, Ok, Err}
use Rattle.std.specs.Prelude.{All}
use Rattle.std.specs.declared.result.Result.{Result}
use Rattle.std.proofs.lemmas.List.{append-nil, length-append, drop_at, take_at}
use Rattle.std.proofs.lemmas.List.Elements.{All-nil, All-cons}
use Rattle.xmp_values.specs.declared.faults.Fault.{Fault}
use Rattle.xmp_values.specs.declared.stops.FaultStop.{FaultStop}
use Rattle.xmp_values.specs.declared.stops.FaultStop.TheVariants as faults
use Rattle.jpeg_regions.specs.Jpeg.{span}
use Rattle.jpeg_extended.specs.FromDesk.{payload_at}
use Rattle.tiff_dirs.specs.Tiff.{Tiff}
use Rattle.tiff_relocation.specs.declared.relocation.Relocation.{Relocation}
use Rattle.tiff_relocation.specs.Relocation.{lacks_room, packet_place, pad, tells}
use Rattle.tiff_relocation.specs.Moves.{Lies, copy_entry, copy_head, numbers}
use Rattle.xmp_files.specs.declared.appending.Ends.{Ends}
use Rattle.xmp_files.specs.declared.parts.FilePart.{FilePart}
use Rattle.xmp_files.specs.declared.plans.Exchange.{Exchange}
use Rattle.xmp_files.specs.NewFiles.{AreNew, PartLies, last_parts, moved_parts, parts_at}
use Rattle.xmp_files.specs.Planning.{Part, Old, New, Plan}
use Rattle.xmp_files.specs.Plans.{appended_parts, over_entries, over_offsets, put_last, within_out}
use Rattle.xmp_files.specs.Planneds.{LastAnswer, PartsAnswer}

-- a part of bytes that stand together
middle : (x y z items : List ℕ) (i j : ℕ) → items ≡ (x ++ y) ++ z → i ≡ length x → j ≡ length (x ++ y) → payload_at items (span i j) ≡ y
middle x y z items i j is from to =
    let rest : drop i items ≡ y ++ z = ap (drop i) (is ∙ append_assoc x y z) ∙ drop_at x (y ++ z) i (sym from) in
    let long : j - i ≡ length y = omega (arith, from, to, length-append x y) in
    ap (take (j - i)) rest ∙ ap (λ (n : ℕ). take n (y ++ z)) long ∙ take_at y z (length y) refl

-- parts that lie, one by one
abbrev PartsLie : ℕ → ℕ → List FilePart → Type 0
PartsLie size count [] = Unit {0}
PartsLie size count (p ∷ ps) = PartLies size count p × PartsLie size count ps

parts_all : (size count : ℕ) (ps : List FilePart) → PartsLie size count ps → All (PartLies size count) ps
parts_all size count [] lie = All-nil (PartLies size count)
parts_all size count (p ∷ ps) lie = All-cons (PartLies size count) p ps lie.0 (parts_all size count ps lie.1)

module _ (r : Relocation) (packet items : List ℕ) (ends : Ends) (new : AreNew r packet items ends) where
  abbrev a : List ℕ
  a = numbers r (length packet)

  abbrev b : List ℕ
  b = pad r.size ++ copy_head r

  abbrev c : List ℕ
  c = copy_entry r (length packet)

  first_is : payload_at items (span 0 ends.numbers) ≡ a
  first_is = middle [] a (b ++ (c ++ packet)) items 0 ends.numbers (new.is ∙ append_assoc (a ++ b) c packet ∙ append_assoc a b (c ++ packet)) refl new.numbers_end

  head_is : payload_at items (span ends.numbers ends.head) ≡ b
  head_is = middle a b (c ++ packet) items ends.numbers ends.head (new.is ∙ append_assoc (a ++ b) c packet) new.numbers_end new.head_end

  entry_is : payload_at items (span ends.head ends.entry) ≡ c
  entry_is = middle (a ++ b) c packet items ends.head ends.entry new.is new.head_end new.entry_end

  packet_is : payload_at items (span ends.entry ends.packet) ≡ packet
  packet_is = middle (a ++ b ++ c) packet [] items ends.entry ends.packet (new.is ∙ sym (append-nil (a ++ b ++ c ++ packet))) new.entry_end (new.packet_end ∙ ap length new.is)

  pub parts_are_moved : parts_at items (last_parts r ends) ≡ moved_parts r packet
  parts_are_moved = λ i. Old (span 0 r.changed.start) ∷ New (first_is i) ∷ Old (span r.changed.end r.size) ∷ New (head_is i) ∷ Old r.before ∷ New (entry_is i) ∷ Old r.after ∷ New (packet_is i) ∷ []

  pub parts_lie : Lies r → All (PartLies r.size (length items)) (last_parts r ends)
  parts_lie lies =
      let one = length-append a b in
      let two = length-append (a ++ b) c in
      let three = length-append (a ++ b ++ c) packet in
      let whole = ap length new.is in
      parts_all r.size (length items) (last_parts r ends) (
        (omega arith, omega (arith, lies.changed.0, lies.changed.1)),
        (
          (omega arith, omega (arith, new.numbers_end, one, two, three, whole)),
          (
            (omega (arith, lies.changed.1), omega arith),
            (
              (omega (arith, new.numbers_end, new.head_end, one), omega (arith, new.head_end, two, three, whole)),
              (
                lies.before,
                (
                  (omega (arith, new.head_end, new.entry_end, two), omega (arith, new.entry_end, three, whole)),
                  (
                    lies.after,
                    (
                      (omega (arith, new.entry_end, new.packet_end, three, whole), omega (arith, new.packet_end)),
                      tt,
                    ),
                  ),
                ),
              ),
            ),
          ),
        ),
      )

-- Why a packet doesn't come to the end of a file, and what comes there.
module _ (size : ℕ) (tiff : Tiff) (packet : List ℕ) where
  abbrev told_len : ℕ
  told_len = packet_place size tiff + length packet

  abbrev last_by : Bool → Bool → Result Plan Fault
  last_by lacks fits = if lacks then Err over_entries else (if fits then within_out (appended_parts size tiff packet) else Err (over_offsets told_len))

  pub last_full : (fault : Fault) → lacks_room tiff ≡ true → fault ≡ over_entries → (let r : Result Plan Fault = Err fault in r) ≡ put_last size tiff packet
  last_full fault full is = ap (λ (f : Fault). let r : Result Plan Fault = Err f in r) is ∙ sym (ap (λ (x : Bool). last_by x (tells tiff.layout told_len)) full)

  pub last_long : (fault : Fault) (len : ℕ) → lacks_room tiff ≡ false → tells tiff.layout told_len ≡ false → len ≡ told_len → fault ≡ over_offsets len
      → (let r : Result Plan Fault = Err fault in r) ≡ put_last size tiff packet
  last_long fault len room long len_is is =
      ap (λ (f : Fault). let r : Result Plan Fault = Err f in r) (is ∙ ap over_offsets len_is) ∙ sym (λ i. last_by (room i) (long i))

  pub last_put : (parts : List Part) (result : Result Exchange FaultStop) → lacks_room tiff ≡ false → tells tiff.layout told_len ≡ true → parts ≡ appended_parts size tiff packet → PartsAnswer parts result
      → LastAnswer size tiff packet result
  last_put parts result room fits are answer = by_result result answer
    where
      goal_is : within_out parts ≡ put_last size tiff packet
      goal_is = ap within_out are ∙ sym (λ i. last_by (room i) (fits i))

      by_result : (x : Result Exchange FaultStop) → PartsAnswer parts x → LastAnswer size tiff packet x
      by_result (Ok exchange) h = h ∙ goal_is
      by_result (Err (faults.Fault fault)) h = h ∙ goal_is
      by_result (Err faults.Memory) h = tt

-- new bytes that are added one part after another
pub added : (r : Relocation) (packet : List ℕ) (len : ℕ) (i0 i1 i2 i3 i4 : List ℕ) (ends : Ends) → i0 ≡ [] → i1 ≡ i0 ++ numbers r len → i2 ≡ i1 ++ (pad r.size ++ copy_head r) → i3 ≡ i2 ++ copy_entry r len
    → i4 ≡ i3 ++ packet → length packet ≡ len → ends.numbers ≡ length i1 → ends.head ≡ length i2 → ends.entry ≡ length i3 → ends.packet ≡ length i4 → AreNew r packet i4 ends
added r packet len i0 i1 i2 i3 i4 ends none first second third last long at1 at2 at3 at4 =
    let b : List ℕ = pad r.size ++ copy_head r in
    let one : i1 ≡ numbers r (length packet) = first ∙ ap (λ (l : List ℕ). l ++ numbers r len) none ∙ ap (numbers r) (sym long) in
    let two : i2 ≡ numbers r (length packet) ++ b = second ∙ ap (λ (l : List ℕ). l ++ b) one in
    let three : i3 ≡ numbers r (length packet) ++ b ++ copy_entry r (length packet) = third ∙ (λ i. two i ++ copy_entry r (sym long i)) in
    record {
      is = last ∙ ap (λ (l : List ℕ). l ++ packet) three;
      numbers_end = at1 ∙ ap length one;
      head_end = at2 ∙ ap length two;
      entry_end = at3 ∙ ap length three;
      packet_end = at4;
    }
