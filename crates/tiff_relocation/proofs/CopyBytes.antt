-- Where the parts of a directory's copy stand, and that its entries are those of the old one with the packet's among them.
use Rattle.std.proofs.Common.{◌≡◌, ◌∙◌, ℕ, zero, suc, ◌+◌, ◌*◌, ◌^◌, ◌<◌, ◌≤◌, List, ◌++◌, length, take, drop, refl, sym, ap, subst, arith, append_assoc, All}
use Rattle.std.proofs.lemmas.List.{length-append, length-drop, length-take-le, take_at}
use Rattle.std.proofs.lemmas.List.Elements.{All-head, All-tail}
use Rattle.xmp_base.specs.declared.file_span.FileSpan.{FileSpan}
use Rattle.tiff_dirs.specs.declared.layout.Layout.{Layout}
use Rattle.tiff_dirs.specs.Layouts.{Widths}
use Rattle.tiff_dirs.specs.Numbers.{number}
use Rattle.tiff_dirs.specs.Directories.{span, count_at, end_at, entries_at, entries_from, entry_at, next_place}
use Rattle.tiff_relocation.specs.Relocation.{number_bytes, packet_entry}
use Rattle.tiff_relocation.proofs.Copied.{IsKept, IsPacket, behind, bytes_length, entry_copied, number_moved, packet_written, reads_back}
use Rattle.tiff_relocation.proofs.Grown.{AreCopies, HasPacket}

-- The directory at a place of one file is a copy of that of another, cut in two by a packet's entry.
pub record HasCopy (l : Layout) (a b : List ℕ) (at new k m : ℕ) (v : FileSpan) : Type 0 where
  pub whole : count_at l a at ≡ k + m
  pub count : count_at l b new ≡ suc (k + m)
  pub before : take (l.entry * k) (drop (new + l.count) b) ≡ take (l.entry * k) (drop (at + l.count) a)
  pub packet : IsPacket l v (entry_at l b (new + l.count + l.entry * k))
  pub after : take (l.entry * m + l.word) (drop (new + l.count + l.entry * k + l.entry) b) ≡ take (l.entry * m + l.word) (drop (at + l.count + l.entry * k) a)

module _ (l : Layout) (w : Widths l) (a b : List ℕ) where
  -- entries in a part that is copied
  copies_from : (p q len : ℕ) → take len (drop q b) ≡ take len (drop p a) → (j n x y : ℕ) → j + l.entry * n ≤ len → x ≡ p + j → y ≡ q + j → All (IsKept l a b) (entries_from l a x n)
      → AreCopies l a b (entries_from l a x n) (entries_from l b y n)
  copies_from p q len same j zero x y h e f kept = tt
  copies_from p q len same j (suc n) x y h e f kept =
      let more : l.entry * suc n ≡ l.entry * n + l.entry = omega arith in
      let rest = entries_from l a (x + l.entry) n in (
        entry_copied l w a b p q len same j x y (omega (arith, h, more)) e f (All-head (IsKept l a b) (entry_at l a x) rest kept),
        copies_from p q len same (j + l.entry) n (x + l.entry) (y + l.entry) (omega (arith, h, more)) (omega (arith, e)) (omega (arith, f)) (All-tail (IsKept l a b) (entry_at l a x) rest kept),
      )

  module _ (at new k m : ℕ) (v : FileSpan) (copy : HasCopy l a b at new k m v) where
    grown_from : (i n j x y : ℕ) → n ≡ i + m → j + l.entry * i ≡ l.entry * k → x ≡ at + l.count + j → y ≡ new + l.count + j → All (IsKept l a b) (entries_from l a x n)
        → HasPacket l a b v i (entries_from l a x n) (entries_from l b y (suc n))
    grown_from zero n j x y is far e f kept =
        let here : y ≡ new + l.count + l.entry * k = omega (arith, far, f) in
        let past : x ≡ at + l.count + l.entry * k = omega (arith, far, e) in
        let all : n ≡ m = omega (arith, is) in (
          subst (λ (z : ℕ). IsPacket l v (entry_at l b z)) (sym here) copy.packet,
          copies_from (at + l.count + l.entry * k) (new + l.count + l.entry * k + l.entry) (l.entry * m + l.word) copy.after 0 n x (y + l.entry)
              (let product : l.entry * n ≡ l.entry * m = ap (λ (z : ℕ). l.entry * z) all in omega (arith, product)) (omega (arith, past)) (omega (arith, here)) kept,
        )
    grown_from (suc i) zero j x y is far e f kept = absurd (omega (arith, is))
    grown_from (suc i) (suc n) j x y is far e f kept =
        let more : l.entry * suc i ≡ l.entry * i + l.entry = omega arith in
        let rest = entries_from l a (x + l.entry) n in (
          entry_copied l w a b (at + l.count) (new + l.count) (l.entry * k) copy.before j x y (omega (arith, far, more)) e f (All-head (IsKept l a b) (entry_at l a x) rest kept),
          grown_from i n (j + l.entry) (x + l.entry) (y + l.entry) (omega (arith, is)) (omega (arith, far, more)) (omega (arith, e)) (omega (arith, f)) (All-tail (IsKept l a b) (entry_at l a x) rest kept),
        )

    pub entries_grown : All (IsKept l a b) (entries_at l a at) → HasPacket l a b v k (entries_at l a at) (entries_at l b new)
    entries_grown kept =
        let first : HasPacket l a b v k (entries_at l a at) (entries_from l b (new + l.count) (suc (count_at l a at))) =
        grown_from k (count_at l a at) 0 (at + l.count) (new + l.count) copy.whole (omega arith) (omega arith) (omega arith) kept in
        let one : suc (count_at l a at) ≡ count_at l b new = ap suc copy.whole ∙ sym copy.count in
        subst (λ (n : ℕ). HasPacket l a b v k (entries_at l a at) (entries_from l b (new + l.count) n)) one first

    pub next_moved : number l.big l.word (next_place l b new) b ≡ number l.big l.word (next_place l a at) a
    next_moved =
        let old : l.entry * count_at l a at ≡ l.entry * k + l.entry * m = ap (λ (n : ℕ). l.entry * n) copy.whole ∙ omega arith in
        let now : l.entry * count_at l b new ≡ l.entry * k + l.entry * m + l.entry = ap (λ (n : ℕ). l.entry * n) copy.count ∙ omega arith in
        number_moved l w a b (at + l.count + l.entry * k) (new + l.count + l.entry * k + l.entry) (l.entry * m + l.word) copy.after l.big l.word (l.entry * m) (next_place l a at) (next_place l b new)
        (omega arith) (omega (arith, old)) (omega (arith, now))

    -- the copy is an entry longer
    pub end_moved : end_at l b new + at ≡ new + end_at l a at + l.entry
    end_moved =
        let old : l.entry * count_at l a at ≡ l.entry * k + l.entry * m = ap (λ (n : ℕ). l.entry * n) copy.whole ∙ omega arith in
        let now : l.entry * count_at l b new ≡ l.entry * k + l.entry * m + l.entry = ap (λ (n : ℕ). l.entry * n) copy.count ∙ omega arith in
        omega (arith, old, now)

-- The copy that is put behind a file.
module _ (l : Layout) (w : Widths l) (a b more : List ℕ) (at new k m len place : ℕ) (whole : count_at l a at ≡ k + m) (inside : end_at l a at ≤ length a) where
  abbrev cut : ℕ
  cut = at + l.count + l.entry * k

  abbrev head : List ℕ
  head = number_bytes l.big l.count (k + m + 1)

  abbrev first : List ℕ
  first = take (l.entry * k) (drop (at + l.count) a)

  abbrev entry : List ℕ
  entry = packet_entry l len place

  abbrev last : List ℕ
  last = take (l.entry * m + l.word) (drop cut a)

  entry_length : length entry ≡ l.entry
  entry_length =
      let tag = number_bytes l.big 2 700 in
      let code = number_bytes l.big 2 1 in
      let count = number_bytes l.big l.word len in
      let offset = number_bytes l.big l.word place in
      let size = w.entry in
      omega (
        arith,
        size,
        length-append tag (code ++ (count ++ offset)),
        length-append code (count ++ offset),
        length-append count offset,
        bytes_length l.big 2 700,
        bytes_length l.big 2 1,
        bytes_length l.big l.word len,
        bytes_length l.big l.word place,
      )

  pub copy_stands : drop new b ≡ (head ++ (first ++ (entry ++ last))) ++ more → k + m + 1 < 256 ^ l.count → l.word < len → len < 256 ^ l.word → place < 256 ^ l.word
      → HasCopy l a b at new k m (span place (place + len))
  copy_stands is counted long len_held place_held =
      let product : l.entry * count_at l a at ≡ l.entry * k + l.entry * m = ap (λ (n : ℕ). l.entry * n) whole ∙ omega arith in
      let one : drop new b ≡ head ++ ((first ++ (entry ++ last)) ++ more) = is ∙ append_assoc head (first ++ (entry ++ last)) more in
      let two : drop (new + l.count) b ≡ first ++ ((entry ++ last) ++ more) =
      behind b head ((first ++ (entry ++ last)) ++ more) new (new + l.count) l.count one (bytes_length l.big l.count (k + m + 1)) refl ∙ append_assoc first (entry ++ last) more in
      let first_len : length first ≡ l.entry * k = length-take-le (l.entry * k) (drop (at + l.count) a) (omega (arith, length-drop (at + l.count) a, inside, product)) in
      let three : drop (new + l.count + l.entry * k) b ≡ entry ++ (last ++ more) =
      behind b first ((entry ++ last) ++ more) (new + l.count) (new + l.count + l.entry * k) (l.entry * k) two first_len refl ∙ append_assoc entry last more in
      let four : drop (new + l.count + l.entry * k + l.entry) b ≡ last ++ more =
      behind b entry (last ++ more) (new + l.count + l.entry * k) (new + l.count + l.entry * k + l.entry) l.entry three entry_length refl in
      let last_len : length last ≡ l.entry * m + l.word = length-take-le (l.entry * m + l.word) (drop cut a) (omega (arith, length-drop cut a, inside, product)) in
      record {
        whole = whole;
        count = reads_back l.big l.count (k + m + 1) new b ((first ++ (entry ++ last)) ++ more) counted one ∙ omega arith;
        before = ap (take (l.entry * k)) two ∙ take_at first ((entry ++ last) ++ more) (l.entry * k) first_len;
        packet = packet_written l w b (last ++ more) (new + l.count + l.entry * k) len place long len_held place_held three;
        after = ap (take (l.entry * m + l.word)) four ∙ take_at last more (l.entry * m + l.word) last_len;
      }
