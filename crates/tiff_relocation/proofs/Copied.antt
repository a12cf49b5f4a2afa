-- Entries of a directory's copy: each has the numbers of the one that it was copied from, wherever its value stands.
use Rattle.std.proofs.Common.{◌≡◌, ◌∙◌, ℕ, ◌+◌, ◌*◌, ◌^◌, ◌<◌, ◌≤◌, nat_le, nat_lt, Bool, true, false, if◌then◌else◌, List, ◌++◌, length, take, drop, refl, sym, ap, arith, append_assoc}
use Rattle.std.proofs.lemmas.Bool.Decides.{nat_tests}
use Rattle.std.proofs.lemmas.List.{drop-drop, drop_at}
use Rattle.byteorder.specs.Numbers.{big_number-reads_back, length-bytes_high_first, length-bytes_low_first, little_number-reads_back}
use Rattle.byteorder.specs.Endian.{big_from, little_from}
use native.Mathlib.Nat.{mul-le-mul_left}
use Rattle.xmp_base.specs.declared.file_span.FileSpan.{FileSpan}
use Rattle.tiff_dirs.specs.declared.layout.Layout.{Layout}
use Rattle.tiff_dirs.specs.declared.entry.Entry.{Entry}
use Rattle.tiff_dirs.specs.Layouts.{Widths}
use Rattle.tiff_dirs.specs.Numbers.{number, numbers}
use Rattle.tiff_dirs.specs.Types.{size_of}
use Rattle.tiff_dirs.specs.Directories.{span, value_at, entry_at, is_apart}
use Rattle.tiff_dirs.specs.Frames.{bytes_in}
use Rattle.tiff_dirs.proofs.Frames.{numbers_same}
use Rattle.tiff_dirs.proofs.Piece.{number_part, numbers_part}
use Rattle.tiff_relocation.specs.Relocation.{number_bytes, packet_entry}

-- an entry has the numbers of another, and a value that stands apart is the same
pub record IsCopy (l : Layout) (a b : List ℕ) (e f : Entry) : Type 0 where
  pub tag : f.tag ≡ e.tag
  pub code : f.code ≡ e.code
  pub count : f.count ≡ e.count
  pub items : (n : ℕ) → n ≤ e.count → numbers l.big (size_of l e.code) f.value.start n b ≡ numbers l.big (size_of l e.code) e.value.start n a
  pub apart : is_apart l e ≡ true → f.value ≡ e.value

-- a value that stands apart has the same bytes in both files
abbrev pub IsKept : Layout → List ℕ → List ℕ → Entry → Type 0
IsKept l a b e = is_apart l e ≡ true → bytes_in b e.value ≡ bytes_in a e.value

-- the entry of a packet with this value
pub record IsPacket (l : Layout) (v : FileSpan) (f : Entry) : Type 0 where
  pub tag : f.tag ≡ 700
  pub code : f.code ≡ 1
  pub apart : is_apart l f ≡ true
  pub value : f.value ≡ v

-- a value by whether it stands in its entry
abbrev pub value_by : Bool → ℕ → ℕ → ℕ → FileSpan
value_by near at offset size = if near then span at (at + size) else span offset (offset + size)

far_by : (t : Bool) (word size x y m n : ℕ) → nat_le size word ≡ t → nat_lt word size ≡ true → n ≡ m → value_by t y n size ≡ value_by t x m size
far_by true word size x y m n e far is = (let no : true ≡ false = grind (arith, nat_tests, e, far) in absurd (cc no))
far_by false word size x y m n e far is = ap (λ (j : ℕ). span j (j + size)) is

items_by : (big : Bool) (a b : List ℕ) (t : Bool) (word size item count x y m n : ℕ) → nat_le size word ≡ t → size ≡ item * count → n ≡ m
    → ((j : ℕ) → item * j ≤ word → numbers big item y j b ≡ numbers big item x j a)
    → (nat_lt word size ≡ true → bytes_in b (value_by t x m size) ≡ bytes_in a (value_by t x m size))
    → (j : ℕ) → j ≤ count → numbers big item (value_by t y n size).start j b ≡ numbers big item (value_by t x m size).start j a
items_by big a b true word size item count x y m n e is same near far j few =
    let product : item * j ≤ item * count = mul-le-mul_left item few in
    let short : size ≤ word = grind (arith, nat_tests, e) in
    near j (omega (arith, product, short, is))
items_by big a b false word size item count x y m n e is same near far j few =
    let product : item * j ≤ item * count = mul-le-mul_left item few in
    let long : nat_lt word size ≡ true = grind (arith, nat_tests, e) in
    ap (λ (k : ℕ). numbers big item k j b) same ∙ numbers_same a b (span m (m + size)) (far long) big item m j (omega arith) (omega (arith, product, is))

module _ (l : Layout) (w : Widths l) (a b : List ℕ) (p q len : ℕ) (same : take len (drop q b) ≡ take len (drop p a)) where
  pub number_moved : (big : Bool) (width k x y : ℕ) → k + width ≤ len → x ≡ p + k → y ≡ q + k → number big width y b ≡ number big width x a
  number_moved big width k x y h e f =
      sym (number_part (take len (drop q b)) b q len refl big width k y h f) ∙ ap (number big width k) same ∙ number_part (take len (drop p a)) a p len refl big width k x h e

  numbers_moved : (big : Bool) (width k x y n : ℕ) → k + width * n ≤ len → x ≡ p + k → y ≡ q + k → numbers big width y n b ≡ numbers big width x n a
  numbers_moved big width k x y n h e f =
      sym (numbers_part (take len (drop q b)) b q len refl big width k y n h f) ∙ ap (numbers big width k n) same ∙ numbers_part (take len (drop p a)) a p len refl big width k x n h e

  pub entry_copied : (k x y : ℕ) → k + l.entry ≤ len → x ≡ p + k → y ≡ q + k → IsKept l a b (entry_at l a x) → IsCopy l a b (entry_at l a x) (entry_at l b y)
  unfolding entry_at value_at
  entry_copied k x y h e f kept =
      let wide = w.entry in
      let code = number_moved l.big 2 (k + 2) (x + 2) (y + 2) (omega (arith, wide, h)) (omega (arith, e)) (omega (arith, f)) in
      let count = number_moved l.big l.word (k + 4) (x + 4) (y + 4) (omega (arith, wide, h)) (omega (arith, e)) (omega (arith, f)) in
      let offset = number_moved l.big l.word (k + 4 + l.word) (x + 4 + l.word) (y + 4 + l.word) (omega (arith, wide, h)) (omega (arith, e)) (omega (arith, f)) in
      let item = size_of l (number l.big 2 (x + 2) a) in
      let old = item * number l.big l.word (x + 4) a in
      let size : size_of l (number l.big 2 (y + 2) b) * number l.big l.word (y + 4) b ≡ old =
      ap (λ (c : ℕ). size_of l c * number l.big l.word (y + 4) b) code ∙ ap (λ (c : ℕ). item * c) count in
      record {
        tag = number_moved l.big 2 k x y (omega (arith, wide, h)) e f;
        code = code;
        count = count;
        items = λ n few. ap (λ (s : ℕ). numbers l.big item (value_at l b (y + 4 + l.word) s).start n b) size
            ∙ items_by l.big a b (nat_le old l.word) l.word old item (number l.big l.word (x + 4) a) (x + 4 + l.word) (y + 4 + l.word)
            (number l.big l.word (x + 4 + l.word) a) (number l.big l.word (y + 4 + l.word) b) refl refl offset
            (λ j short. numbers_moved l.big item (k + 4 + l.word) (x + 4 + l.word) (y + 4 + l.word) j (omega (arith, wide, h, short)) (omega (arith, e)) (omega (arith, f))) kept n few;
        apart = λ far. ap (value_at l b (y + 4 + l.word)) size
            ∙ far_by (nat_le old l.word) l.word old (x + 4 + l.word) (y + 4 + l.word) (number l.big l.word (x + 4 + l.word) a) (number l.big l.word (y + 4 + l.word) b) refl far offset;
      }

-- What stands behind a part, and the number of its bytes.

pub behind : (b xs ys : List ℕ) (at x n : ℕ) → drop at b ≡ xs ++ ys → length xs ≡ n → x ≡ at + n → drop x b ≡ ys
behind b xs ys at x n h long is = ap (λ (j : ℕ). drop j b) is ∙ sym (drop-drop n at b) ∙ ap (drop n) h ∙ drop_at xs ys n long

pub bytes_length : (big : Bool) (width n : ℕ) → length (number_bytes big width n) ≡ width
unfolding number_bytes
bytes_length true width n = length-bytes_high_first width n
bytes_length false width n = length-bytes_low_first 0 width n

pub reads_back : (big : Bool) (width n at : ℕ) (b rest : List ℕ) → n < 256 ^ width → drop at b ≡ number_bytes big width n ++ rest → number big width at b ≡ n
unfolding number number_bytes
reads_back true width n at b rest h e = ap (big_from 0 width) e ∙ big_number-reads_back width n rest h
reads_back false width n at b rest h e = ap (little_from 0 width) e ∙ little_number-reads_back width n rest h

-- an entry of type BYTE whose value is longer than a word
packet_by : (l : Layout) (f : Entry) (len : ℕ) → f.code ≡ 1 → f.count ≡ len → l.word < len → is_apart l f ≡ true
packet_by l f len code count long =
    ap (λ (c : ℕ). nat_lt l.word (size_of l c * f.count)) code ∙ ap (λ (n : ℕ). nat_lt l.word (1 * n)) count ∙ grind (arith, nat_tests, long)

pub packet_value : (t : Bool) (word size x n place : ℕ) → nat_le size word ≡ t → word < size → n ≡ place → value_by t x n size ≡ span place (place + size)
packet_value true word size x n place e long is = (let short : size ≤ word = grind (arith, nat_tests, e) in absurd (omega (arith, short, long)))
packet_value false word size x n place e long is = ap (λ (j : ℕ). span j (j + size)) is

pub packet_written : (l : Layout) (w : Widths l) (b rest : List ℕ) (y len place : ℕ) → l.word < len → len < 256 ^ l.word → place < 256 ^ l.word
    → drop y b ≡ packet_entry l len place ++ rest → IsPacket l (span place (place + len)) (entry_at l b y)
unfolding entry_at value_at
packet_written l w b rest y len place long len_held place_held is =
    let tag_bytes = number_bytes l.big 2 700 in
    let code_bytes = number_bytes l.big 2 1 in
    let count_bytes = number_bytes l.big l.word len in
    let offset_bytes = number_bytes l.big l.word place in
    let first : drop y b ≡ tag_bytes ++ ((code_bytes ++ (count_bytes ++ offset_bytes)) ++ rest) = is ∙ append_assoc tag_bytes (code_bytes ++ (count_bytes ++ offset_bytes)) rest in
    let second : drop (y + 2) b ≡ code_bytes ++ ((count_bytes ++ offset_bytes) ++ rest) =
    behind b tag_bytes ((code_bytes ++ (count_bytes ++ offset_bytes)) ++ rest) y (y + 2) 2 first (bytes_length l.big 2 700) refl ∙ append_assoc code_bytes (count_bytes ++ offset_bytes) rest in
    let third : drop (y + 4) b ≡ count_bytes ++ (offset_bytes ++ rest) =
    behind b code_bytes ((count_bytes ++ offset_bytes) ++ rest) (y + 2) (y + 4) 2 second (bytes_length l.big 2 1) (omega arith) ∙ append_assoc count_bytes offset_bytes rest in
    let fourth : drop (y + 4 + l.word) b ≡ offset_bytes ++ rest = behind b count_bytes (offset_bytes ++ rest) (y + 4) (y + 4 + l.word) l.word third (bytes_length l.big l.word len) refl in
    let tag = reads_back l.big 2 700 y b ((code_bytes ++ (count_bytes ++ offset_bytes)) ++ rest) (omega arith) first in
    let code = reads_back l.big 2 1 (y + 2) b ((count_bytes ++ offset_bytes) ++ rest) (omega arith) second in
    let count = reads_back l.big l.word len (y + 4) b (offset_bytes ++ rest) len_held third in
    let offset = reads_back l.big l.word place (y + 4 + l.word) b rest place_held fourth in
    let size : size_of l (number l.big 2 (y + 2) b) * number l.big l.word (y + 4) b ≡ len =
    ap (λ (c : ℕ). size_of l c * number l.big l.word (y + 4) b) code ∙ ap (λ (n : ℕ). 1 * n) count ∙ omega arith in
    record {
      tag = tag;
      code = code;
      apart = packet_by l (entry_at l b y) len code count long;
      value = ap (value_at l b (y + 4 + l.word)) size ∙ packet_value (nat_le len l.word) l.word len (y + 4 + l.word) (number l.big l.word (y + 4 + l.word) b) place refl long offset;
    }
