-- The bytes of a payload that tell its kind.
use Rattle.std.proofs.Common.{◌≡◌, ℕ, ◌≤◌, min, Bool, false, cond, ◌&&◌, nat_eq, nat_le, ◌==◌, inl, inr, List, length, take, drop, sym, ap, subst, ◌∙◌, arith, lit≤}
use Rattle.std.specs.List.{starts_with, list_all}
use lib.Pointwise.{pointwise}
use Rattle.std.proofs.lemmas.List.{take-take, take_min, drop-take, length-take}
use Rattle.std.proofs.lemmas.Bool.{ne_eqb, cases_eq}
use Rattle.std.proofs.lemmas.Bool.Decides.{nat_tests}
use Rattle.xmp_values.specs.Digits.{is_digit}
use Rattle.jpeg_regions.specs.declared.kind.RegionKind.{RegionKind}
use Rattle.jpeg_regions.specs.declared.kind.RegionKind.TheVariants.{Main, Portion, Exif, Resources, Mpf, App0, Other}
use Rattle.jpeg_regions.specs.Kinds.{kind_of, first_kind_of, front_len, is_portion, is_exif, packet_signature, portion_signature, exif_signature, mpf_signature, resources_signature}

pub begins-take : (n : ℕ) (xs needle : List ℕ) → length needle ≤ n → starts_with nat_eq (take n xs) needle ≡ starts_with nat_eq xs needle
begins-take n xs needle h = ap (λ (l : List ℕ). pointwise nat_eq needle l) (take-take (length needle) n xs h)

long-take : (k n : ℕ) (xs : List ℕ) → k ≤ n → nat_le k (length (take n xs)) ≡ nat_le k (length xs)
long-take k n xs h = grind (arith, nat_tests, length-take {A = ℕ})

digits-take : (xs : List ℕ) → take 32 (drop 35 (take 75 xs)) ≡ take 32 (drop 35 xs)
digits-take xs = ap (take 32) (drop-take 35 40 xs) ∙ take-take 32 40 (drop 35 xs) (lit≤ tt)

and3 : (a b c x y z : Bool) → a ≡ x → b ≡ y → c ≡ z → (a && b && c) ≡ (x && y && z)
and3 a b c x y z e f g = cc

and2 : (a b x y : Bool) → a ≡ x → b ≡ y → (a && b) ≡ (x && y)
and2 a b x y e f = cc

portion-take : (xs : List ℕ) → is_portion (take 75 xs) ≡ is_portion xs
portion-take xs = and3 _ _ _ _ _ _ (long-take 75 75 xs (lit≤ tt)) (begins-take 75 xs portion_signature (lit≤ tt)) (ap (list_all is_digit) (digits-take xs))

exif-take : (xs : List ℕ) → is_exif (take 75 xs) ≡ is_exif xs
exif-take xs = and2 _ _ _ _ (long-take 6 75 xs (lit≤ tt)) (begins-take 75 xs exif_signature (lit≤ tt))

chosen : (a b c : Bool) → RegionKind
chosen a b c = cond a Main (cond b Portion (cond c Exif Other))

chosen_same : (a b c x y z : Bool) → a ≡ x → b ≡ y → c ≡ z → cond a Main (cond b Portion (cond c Exif Other)) ≡ cond x Main (cond y Portion (cond z Exif Other))
chosen_same a b c x y z e f g = cc

first_kind_of-take : (xs : List ℕ) → first_kind_of (take 75 xs) ≡ first_kind_of xs
first_kind_of-take xs = chosen_same _ _ _ _ _ _ (begins-take 75 xs packet_signature (lit≤ tt)) (portion-take xs) (exif-take xs)

-- no payload counts after another marker
abbrev picked : (a b c d : Bool) → List ℕ → RegionKind
picked a b c d xs = cond a App0 (cond b (first_kind_of xs) (cond (c && starts_with nat_eq xs mpf_signature) Mpf (cond (d && starts_with nat_eq xs resources_signature) Resources Other)))

other : (a b c d : Bool) → b ≡ false → c ≡ false → d ≡ false → (xs ys : List ℕ) → picked a b c d xs ≡ picked a b c d ys
other a b c d e f g xs ys = sym (ap (λ v. picked a v c d xs) (sym e)) ∙ sym (ap (λ v. picked a false v d xs) (sym f)) ∙ sym (ap (λ v. picked a false false v xs) (sym g))
    ∙ ap (λ v. picked a false false v ys) (sym g) ∙ ap (λ v. picked a false v d ys) (sym f) ∙ ap (λ v. picked a v c d ys) (sym e)

mpf-take : (xs : List ℕ) → kind_of 0xE2 (take 4 xs) ≡ kind_of 0xE2 xs
mpf-take xs = ap (λ (b : Bool). cond b Mpf Other) (begins-take 4 xs mpf_signature (lit≤ tt))

resources-take : (xs : List ℕ) → kind_of 0xED (take 14 xs) ≡ kind_of 0xED xs
resources-take xs = ap (λ (b : Bool). cond b Resources Other) (begins-take 14 xs resources_signature (lit≤ tt))

kind_of-front : (marker : ℕ) (xs : List ℕ) → kind_of marker (take (front_len marker) xs) ≡ kind_of marker xs
kind_of-front m xs = elim (cases_eq m 0xE1) [
  | inl e ↦ subst (λ (k : ℕ). kind_of k (take (front_len k) xs) ≡ kind_of k xs) (sym e) (first_kind_of-take xs)
  | inr b ↦ elim (cases_eq m 0xE2) [
    | inl e ↦ subst (λ (k : ℕ). kind_of k (take (front_len k) xs) ≡ kind_of k xs) (sym e) (mpf-take xs)
    | inr c ↦ elim (cases_eq m 0xED) [
      | inl e ↦ subst (λ (k : ℕ). kind_of k (take (front_len k) xs) ≡ kind_of k xs) (sym e) (resources-take xs)
      | inr d ↦ other (m == 0xE0) (m == 0xE1) (m == 0xE2) (m == 0xED) (ne_eqb m 0xE1 b) (ne_eqb m 0xE2 c) (ne_eqb m 0xED d) (take (front_len m) xs) xs
    ]
  ]
]

pub kind_of-take : (marker n : ℕ) (payload : List ℕ) → length payload ≡ n → kind_of marker (take (min (front_len marker) n) payload) ≡ kind_of marker payload
kind_of-take marker n payload len =
    ap (λ (k : ℕ). kind_of marker (take (min (front_len marker) k) payload)) (sym len)
    ∙ ap (kind_of marker) (take_min (front_len marker) payload)
    ∙ kind_of-front marker payload
