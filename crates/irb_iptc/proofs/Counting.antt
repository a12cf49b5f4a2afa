-- The count of a dataset's bytes.
use Rattle.std.proofs.Common.{◌≡◌, ◌⊎◌, ℕ, zero, suc, ◌+◌, ◌-◌, ◌*◌, ◌^◌, ◌<◌, ◌≤◌, List, [], ◌∷◌, length, get_or, take, drop, refl, sym, ap, subst, ◌∙◌, arith}
use Rattle.std.proofs.lemmas.List.{get_or-take, length-take-le}
use Rattle.byteorder.specs.Endian.{big_number, big_from}
use Rattle.xmp_values.specs.declared.rules.Rule.TheVariants.{DatasetOut, DatasetLong}
use Rattle.irb_iptc.specs.Datasets.{Counts, standard, extended, width}
use Rattle.irb_iptc.specs.Entries.{NoCount, wide, short}

big_from-take : (i n k : ℕ) (xs : List ℕ) → i + n ≤ k → big_from i n (take k xs) ≡ big_from i n xs
big_from-take i zero k xs h = refl
big_from-take i (suc n) k xs h =
    ap (λ (x : ℕ). x * 256 ^ n + big_from (suc i) n (take k xs)) (get_or-take k xs i 0 (omega arith))
    ∙ ap (λ (x : ℕ). get_or xs i 0 * 256 ^ n + x) (big_from-take (suc i) n k xs (omega arith))

-- a number stands in its own bytes
pub big_number-take : (n : ℕ) (xs : List ℕ) → big_number n (take n xs) ≡ big_number n xs
big_number-take n xs = big_from-take 0 n n xs (omega arith)

pub counted : (bytes : List ℕ) (n : ℕ) → 2 ≤ length bytes → n ≡ get_or bytes 0 0 * 256 + (get_or bytes 1 0 * 1 + 0) → get_or bytes 1 0 < 256 → n < 32768 → Counts (take 2 bytes) n
counted [] n two e small h = absurd (omega arith)
counted (x ∷ []) n two e small h = absurd (omega arith)
counted (x ∷ y ∷ more) n two e small h = standard x y refl (omega arith) (omega arith)

pub too_wide : (bytes : List ℕ) (n : ℕ) → 2 ≤ length bytes → n ≡ get_or bytes 0 0 * 256 + (get_or bytes 1 0 * 1 + 0) → get_or bytes 1 0 < 256 → 32768 ≤ n
    → (n - 32768 ≡ 0) ⊎ (4 < n - 32768) → NoCount bytes DatasetLong
too_wide [] n two e small h w = absurd (omega arith)
too_wide (x ∷ []) n two e small h w = absurd (omega arith)
too_wide (x ∷ y ∷ more) n two e small h w =
    let same : n - 32768 ≡ width x y = omega arith in
    wide x y more refl (omega arith) (subst (λ (k : ℕ). (k ≡ 0) ⊎ (4 < k)) same w)

pub too_short : (bytes : List ℕ) (n : ℕ) → 2 ≤ length bytes → n ≡ get_or bytes 0 0 * 256 + (get_or bytes 1 0 * 1 + 0) → get_or bytes 1 0 < 256 → 32768 < n → n ≤ 32772
    → length (drop 2 bytes) < n - 32768 → NoCount bytes DatasetOut
too_short [] n two e small h k l = absurd (omega arith)
too_short (x ∷ []) n two e small h k l = absurd (omega arith)
too_short (x ∷ y ∷ more) n two e small h k l = short x y more refl (omega arith) (omega arith) (omega arith) (omega arith)

pub counted_wide : (bytes : List ℕ) (n w m : ℕ) → 2 ≤ length bytes → n ≡ get_or bytes 0 0 * 256 + (get_or bytes 1 0 * 1 + 0) → get_or bytes 1 0 < 256 → w + 32768 ≡ n
    → 0 < w → w ≤ 4 → w ≤ length (drop 2 bytes) → m ≡ big_number w (drop 2 bytes) → Counts (take (suc (suc w)) bytes) m
counted_wide [] n w m two e small h k l i j = absurd (omega arith)
counted_wide (x ∷ []) n w m two e small h k l i j = absurd (omega arith)
counted_wide (x ∷ y ∷ more) n w m two e small h k l i j =
    let same : w ≡ width x y = omega arith in
    extended x y (take w more) refl (omega arith) (length-take-le w more i ∙ same) (omega arith) (omega arith)
    (j ∙ sym (big_number-take w more) ∙ ap (λ (v : ℕ). big_number v (take w more)) same)
