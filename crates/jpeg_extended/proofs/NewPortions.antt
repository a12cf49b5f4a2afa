-- The portions of a text, read from their payloads, join to it.
use Rattle.std.proofs.Common.{◌≡◌, ℕ, zero, suc, ◌+◌, ◌*◌, ◌^◌, ◌<◌, ◌≤◌, ◌==◌, ◌&&◌, min, Bool, true, cond, List, [], ◌∷◌, ◌++◌, map, length, take, drop, get_or, refl, sym, ap, ◌∙◌, subst, arith, IsTrue, nat_le, nat_eq}
use Rattle.std.specs.List.{All, list_all, range_with_len, starts_with}
use Rattle.std.specs.Prelude.{flat_map, IsPermutation}
use Rattle.std.specs.Str.{bytes_eq}
use Rattle.std.proofs.lemmas.Bool.{eq-eqb}
use Rattle.std.proofs.lemmas.Bool.Decides.{nat_tests}
use Rattle.std.proofs.lemmas.Slice.Eq.{bytes_eq-Decides}
use Rattle.std.proofs.lemmas.List.{drop-drop, drop_at, take_at, take_all, take-take, length-append, length-take, length-map}
use Rattle.std.proofs.lemmas.List.Elements.{All-cons, All-nil}
use Rattle.std.proofs.lemmas.List.FromFn.{length-range_with_len}
use Rattle.std.proofs.lemmas.List.Sorted.{All-permutation, IsPermutation-map, IsPermutation-sym, IsPermutation-refl, IsPermutation-trans, length_permutation}
use Rattle.std.proofs.lemmas.List.Sums.{AllPass-from_list_all, list_all-from_AllPass}
use Rattle.byteorder.specs.Endian.{big_bytes, big_number}
use Rattle.byteorder.specs.Numbers.{big_number-reads_back}
use Rattle.xmp_values.specs.Digits.{AreCapitals, is_digit, is_capital, capital}
use Rattle.jpeg_extended.specs.Tiling.{Extent, Tiles, all_say, limit}
use Rattle.jpeg_extended.specs.Portions.{Portion, extent, is_named, name_in, payload_text, portion_of, signature}
use Rattle.jpeg_extended.specs.Joined.{Joined}
use Rattle.jpeg_extended.specs.Written.{part_size, portion_at, portion_count, portions_of}
use Rattle.jpeg_extended.proofs.OneText.{Stands, text_from}
use Rattle.jpeg_extended.proofs.Segments.{part_length}

module _ (text : List ℕ) where
  -- portions from k on
  abbrev from : ℕ → ℕ → List Portion
  from k count = map (portion_at text) (range_with_len k count)

  tile_from : (k count : ℕ) → k + count ≡ portion_count (length text) → Tiles (min (length text) (part_size * k)) (length text) (map extent (from k count))
  tile_from k zero is = omega (arith, is)
  tile_from k (suc count) is =
      let size = part_length text k in (
        omega (arith, is),
        subst (λ (at : ℕ). Tiles at (length text) (map extent (from (k + 1) count)))
            (let e : min (length text) (part_size * (k + 1)) ≡ min (length text) (part_size * k) + length (take part_size (drop (part_size * k) text)) = omega (arith, is, size) in e)
            (tile_from (k + 1) count (omega (arith, is))),
      )

  tile_all : Tiles 0 (length text) (map extent (portions_of text))
  tile_all = subst (λ (at : ℕ). Tiles at (length text) (map extent (portions_of text)))
      (let e : min (length text) (part_size * 0) ≡ 0 = omega arith in e) (tile_from 0 (portion_count (length text)) (omega arith))

  stand_at : (k : ℕ) → Stands text (portion_at text k)
  stand_at k =
      let rest = drop (part_size * k) text in
      let size = length-take part_size rest in
      sym (take-take (length (take part_size rest)) part_size rest (omega (arith, size))) ∙ take_all (length (take part_size rest)) (take part_size rest) (omega arith)

  stand_from : (k count : ℕ) → All (Stands text) (from k count)
  stand_from k zero = All-nil (Stands text)
  stand_from k (suc count) = All-cons (Stands text) (portion_at text k) (from (k + 1) count) (stand_at k) (stand_from (k + 1) count)

  say_from : (k count : ℕ) → all_say (length text) (map extent (from k count)) ≡ true
  say_from k zero = refl
  say_from k (suc count) = (λ i. eq-eqb (length text) (length text) refl i && say_from (k + 1) count i)

  -- what fits into a segment
  abbrev Fits : Portion → Type 0
  Fits p = (p.full < 2 ^ 32) × (p.offset < 2 ^ 32) × (length p.bytes ≤ 65458)

  fits_from : (k count : ℕ) → length text ≤ limit → k + count ≡ portion_count (length text) → All Fits (from k count)
  fits_from k zero short is = All-nil Fits
  fits_from k (suc count) short is = All-cons Fits (portion_at text k) (from (k + 1) count)
      (omega (arith, short), omega (arith, short, is), omega (arith, part_length text k))
      (fits_from (k + 1) count short (omega (arith, is)))

  pub new_joined : 0 < length text → length text ≤ limit → Joined (portions_of text) text
  new_joined some short = record {
    some = omega (arith, some, length-map (range_with_len 0 (portion_count (length text))) (portion_at text), length-range_with_len 0 (portion_count (length text)));
    within = short;
    same = say_from 0 (portion_count (length text));
    ordered = portions_of text;
    shuffled = IsPermutation-refl (portions_of text);
    tiles = tile_all;
    text_is = sym (text_from 0 (length text) text (portions_of text) refl tile_all (stand_from 0 (portion_count (length text))));
  }

  pub new_fit : length text ≤ limit → All Fits (portions_of text)
  new_fit short = fits_from 0 (portion_count (length text)) short (omega arith)

-- in another order
pub joined_shuffled : (ps qs : List Portion) (text : List ℕ) → IsPermutation ps qs → Joined ps text → Joined qs text
joined_shuffled ps qs text shuffled j = record {
  some = omega (arith, j.some, length_permutation ps qs shuffled);
  within = j.within;
  same = list_all-from_AllPass (λ (e : Extent). e.full == length text) (map extent qs)
      (All-permutation (λ (e : Extent). (e.full == length text) ≡ true) (map extent ps) (map extent qs) (IsPermutation-map extent ps qs shuffled)
      (AllPass-from_list_all (λ (e : Extent). e.full == length text) (map extent ps) j.same));
  ordered = j.ordered;
  shuffled = IsPermutation-trans qs ps j.ordered (IsPermutation-sym ps qs shuffled) j.shuffled;
  tiles = j.tiles;
  text_is = j.text_is;
}

digit_of : (c : ℕ) → is_capital c ≡ true → is_digit c ≡ true
unfolding is_capital is_digit
digit_of c h = grind (arith, nat_tests, h)

capital_of : (c : ℕ) → is_capital c ≡ true → capital c ≡ c
unfolding is_capital capital
capital_of c h = grind (arith, nat_tests, h)

capitals_same : (name : List ℕ) → All (λ c. IsTrue (is_capital c)) name → map capital name ≡ name
capitals_same [] a = refl
capitals_same (c ∷ name) a = (λ i. capital_of c (a 0 c (omega arith)) i ∷ capitals_same name (λ k d less. a (suc k) d (omega (arith, less))) i)

-- the payload of a portion reads as the portion
module _ (name : List ℕ) (capitals : AreCapitals name) (p : Portion) (fits : (p.full < 2 ^ 32) × (p.offset < 2 ^ 32) × (length p.bytes ≤ 65458)) where
  abbrev payload : List ℕ
  payload = payload_text name p

  abbrev numbers : List ℕ
  numbers = big_bytes 4 p.full ++ (big_bytes 4 p.offset ++ p.bytes)

  size : length payload ≡ 75 + length p.bytes
  size = omega (arith, length-append name numbers, capitals.0)

  named : name_in payload ≡ name
  named = take_at name numbers 32 capitals.0

  -- after the name
  after : (k : ℕ) → drop (35 + (32 + k)) payload ≡ drop k numbers
  after k = sym (drop-drop (32 + k) 35 payload) ∙ sym (drop-drop k 32 (name ++ numbers)) ∙ ap (drop k) (drop_at name numbers 32 capitals.0)

  digits : list_all is_digit name ≡ true
  digits = list_all-from_AllPass is_digit name (λ k d less. digit_of (get_or name k d) (capitals.1 k d less))

  is_named_true : is_named name payload (length payload) ≡ true
  is_named_true = (λ i. low i && low i && high i && starts i && all i && same i)
    where
      low : nat_le 75 (length payload) ≡ true
      low = grind (arith, nat_tests, size)

      high : nat_le (length payload) 65533 ≡ true
      high = grind (arith, nat_tests, size, fits.2)

      starts : starts_with nat_eq payload signature ≡ true
      starts = refl

      all : list_all is_digit (name_in payload) ≡ true
      all = ap (list_all is_digit) named ∙ digits

      same : bytes_eq (map capital (name_in payload)) name ≡ true
      same = ap (λ (l : List ℕ). bytes_eq (map capital l) name) named ∙ ap (λ (l : List ℕ). bytes_eq l name) (capitals_same name capitals.1) ∙ (bytes_eq-Decides name name).1 refl

  full_read : big_number 4 (drop 67 payload) ≡ p.full
  full_read = ap (big_number 4) (after 0) ∙ big_number-reads_back 4 p.full (big_bytes 4 p.offset ++ p.bytes) (omega (arith, fits.0))

  offset_read : big_number 4 (drop 71 payload) ≡ p.offset
  offset_read = ap (big_number 4) (after 4) ∙ big_number-reads_back 4 p.offset p.bytes (omega (arith, fits.1))

  pub read_back : portion_of name payload ≡ p ∷ []
  read_back =
      ap (λ (b : Bool). cond b (record { full = big_number 4 (drop 67 payload); offset = big_number 4 (drop 71 payload); bytes = drop 75 payload } ∷ []) []) is_named_true
      ∙ (λ i. record { full = full_read i; offset = offset_read i; bytes = after 8 i } ∷ [])

pub all_read : (name : List ℕ) (ps : List Portion) → AreCapitals name → All (λ (p : Portion). (p.full < 2 ^ 32) × (p.offset < 2 ^ 32) × (length p.bytes ≤ 65458)) ps
    → flat_map (portion_of name) (map (payload_text name) ps) ≡ ps
all_read name [] capitals fits = refl
all_read name (p ∷ ps) capitals fits =
    (λ i. read_back name capitals p (fits 0 p (omega arith)) i ++ all_read name ps capitals (λ k d less. fits (suc k) d (omega (arith, less))) i)

pub joins_again : (text name : List ℕ) → AreCapitals name → 0 < length text → length text ≤ limit
    → (ps : List Portion) → IsPermutation (portions_of text) ps → Joined (flat_map (portion_of name) (map (payload_text name) ps)) text
joins_again text name capitals some short ps shuffled =
    let fits = All-permutation (λ (p : Portion). (p.full < 2 ^ 32) × (p.offset < 2 ^ 32) × (length p.bytes ≤ 65458)) (portions_of text) ps shuffled (new_fit text short) in
    subst (λ (qs : List Portion). Joined qs text) (sym (all_read name ps capitals fits)) (joined_shuffled (portions_of text) ps text shuffled (new_joined text some short))
