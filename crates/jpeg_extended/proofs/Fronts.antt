-- The first 75 bytes of a payload tell what the whole tells.
use Rattle.std.proofs.Common.{◌≡◌, ℕ, ◌+◌, ◌-◌, ◌≤◌, min, ◌&&◌, Bool, true, false, cond, List, [], ◌∷◌, map, length, take, drop, refl, sym, ap, ◌∙◌, arith, nat_le, nat_eq, Some, None}
use Rattle.std.specs.Cmp.Lexicographic.{pointwise}
use Rattle.std.specs.List.{list_all, starts_with}
use Rattle.std.specs.Str.{bytes_eq}
use Rattle.std.proofs.lemmas.Bool.Decides.{nat_tests}
use Rattle.std.proofs.lemmas.List.{drop-take, take-take, length-take, length-drop}
use Rattle.byteorder.specs.Endian.{big_number}
use Rattle.byteorder.specs.Numbers.{big_from-take}
use Rattle.xmp_base.specs.declared.file_span.FileSpan.{FileSpan}
use Rattle.xmp_values.specs.Digits.{is_digit, capital}
use Rattle.jpeg_extended.specs.declared.tiling.Head.{Head}
use Rattle.jpeg_extended.specs.Heads.{extent_of, extents_in}
use Rattle.jpeg_extended.specs.Portions.{Portion, extent, full_in, head_of, is_named, name_in, offset_in, portion_of, signature}

starts_take : (n : ℕ) (xs s : List ℕ) → length s ≤ n → starts_with nat_eq (take n xs) s ≡ starts_with nat_eq xs s
starts_take n xs s le = ap (pointwise nat_eq s) (take-take (length s) n xs le)

capped : (n : ℕ) → nat_le 75 (min 75 n) ≡ nat_le 75 n
capped n = by_test (nat_le 75 n) refl
  where
    by_test : (b : Bool) → nat_le 75 n ≡ b → nat_le 75 (min 75 n) ≡ nat_le 75 n
    by_test true e = grind (arith, nat_tests, e)
    by_test false e = grind (arith, nat_tests, e)

module _ (payload : List ℕ) where
  abbrev front : List ℕ
  front = take 75 payload

  long : nat_le 75 (length front) ≡ nat_le 75 (length payload)
  long = ap (nat_le 75) (length-take 75 payload) ∙ capped (length payload)

  name_same : name_in front ≡ name_in payload
  name_same = ap (take 32) (drop-take 35 40 payload) ∙ take-take 32 40 (drop 35 payload) (omega arith)

  pub full_same : full_in front ≡ full_in payload
  full_same = ap (big_number 4) (drop-take 67 8 payload) ∙ big_from-take 0 4 8 (drop 67 payload) (omega arith)

  pub offset_same : offset_in front ≡ offset_in payload
  offset_same = ap (big_number 4) (drop-take 71 4 payload) ∙ big_from-take 0 4 4 (drop 71 payload) (omega arith)

  pub named_same : (name : List ℕ) (len : ℕ) → is_named name front len ≡ is_named name payload len
  named_same name len = (λ i. long i && nat_le 75 len && nat_le len 65533 && starts_take 75 payload signature (omega arith) i
      && list_all is_digit (name_same i) && bytes_eq (map capital (name_same i)) name)

  module _ (name : List ℕ) (place : FileSpan) (size : place.end - place.start ≡ length payload) where
    by_test : (b : Bool) (p : Portion) (h : Head) → extent p ≡ extent_of h → map extent (cond b (p ∷ []) []) ≡ extents_in (cond b (Some h) None)
    by_test true p h e = (λ i. e i ∷ [])
    by_test false p h e = refl

    pub head_tells : map extent (portion_of name payload) ≡ extents_in (head_of name front place)
    head_tells =
        by_test (is_named name payload (length payload)) _ (record { full = full_in front; offset = offset_in front; len = place.end - place.start - 75; at = place.start + 75 })
        (let len : length (drop 75 payload) ≡ place.end - place.start - 75 = omega (arith, size, length-drop 75 payload) in
        (λ i. record { full = sym full_same i; offset = sym offset_same i; len = len i }))
        ∙ ap (λ (b : Bool). extents_in (cond b (Some (record { full = full_in front; offset = offset_in front; len = place.end - place.start - 75; at = place.start + 75 })) None))
        (sym (named_same name (place.end - place.start) ∙ ap (is_named name payload) size))
