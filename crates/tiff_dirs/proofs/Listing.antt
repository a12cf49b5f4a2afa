-- The ranges of a pair, gone over one by one.
use Rattle.std.proofs.Common.{◌≡◌, ◌≢◌, ℕ, zero, suc, ◌+◌, ◌-◌, ◌*◌, ◌<◌, ◌≤◌, ◌==◌, nat_lt, Bool, true, false, if◌then◌else◌, List, [], ◌∷◌, ◌++◌, length, refl, sym, ap, ◌∙◌, arith, Some}
use Rattle.std.specs.declared.option.Option.{Option}
use Rattle.std.specs.List.{slice_get}
use Rattle.std.proofs.Math.Nat.{mul-suc}
use Rattle.std.proofs.lemmas.Bool.Decides.{nat_tests}
use Rattle.xmp_values.specs.declared.rules.Rule.TheVariants.{RegionOut}
use Rattle.tiff_dirs.specs.declared.stop.TiffStop.{TiffStop}
use Rattle.tiff_dirs.specs.declared.stop.TiffStop.TheVariants.{Fault}
use Rattle.tiff_dirs.specs.declared.tables.Pair.{Pair}
use Rattle.tiff_dirs.specs.Numbers.{number, numbers}
use Rattle.tiff_dirs.specs.Directories.{span}
use Rattle.tiff_dirs.specs.Pictures.{Picture, range_at, ranges, spans_of}
use Rattle.tiff_dirs.specs.Faults.{pictures_fault}
use Rattle.tiff_dirs.specs.Pairs.{ranges_from}
use Rattle.tiff_dirs.proofs.Shown.{ranges_more}

one_more : (w k : ℕ) → w * k + w ≡ w * (k + 1)
one_more w k = let m = mul-suc w k in let s : w * (k + 1) ≡ w * suc k = (let e : k + 1 ≡ suc k = omega arith in ap (λ (j : ℕ). w * j) e) in omega (arith, m, s)

numbers_count : (big : Bool) (w at n : ℕ) (file : List ℕ) → length (numbers big w at n file) ≡ n
numbers_count big w at zero file = refl
numbers_count big w at (suc n) file = ap suc (numbers_count big w (at + w) n file)

few_by : (t : Bool) (x : Picture) (rest : List Picture) (m : ℕ) → length rest ≤ m → length ((if t then [] else x ∷ []) ++ rest) ≤ suc m
few_by true x rest m h = omega (arith, h)
few_by false x rest m h = omega (arith, h)

-- an offset names one range or none
ranges_few : (place : ℕ) (os ns : List ℕ) → length (ranges place os ns) ≤ length os
ranges_few place [] ns = omega arith
ranges_few place (o ∷ os) [] = omega arith
ranges_few place (o ∷ os) (n ∷ ns) = few_by (n == 0) (record { place = place; range = span o (o + n) }) (ranges place os ns) (length os) (ranges_few place os ns)

-- what is after the first, where there is a first
skip_by : (t : Bool) (x : Picture) (rest : List Picture) (i m : ℕ) → length rest ≤ m → length ((if t then [] else x ∷ []) ++ rest) ≡ suc m
    → (slice_get (spans_of ((if t then [] else x ∷ []) ++ rest)) (suc i) ≡ slice_get (spans_of rest) i) × (length rest ≡ m)
skip_by true x rest i m h e = absurd (omega (arith, h, e))
skip_by false x rest i m h e = (refl, omega (arith, e))

module _ (big : Bool) (p : Pair) (a b : List ℕ) where
  -- what stands at an index, and the rest
  pub ranges_next : (k o n : ℕ) → k < p.count → o ≡ number big p.offsets.width (p.offsets.width * k) a → n ≡ number big p.lens.width (p.lens.width * k) b
      → ranges_from big p a b k ≡ range_at p.place o n ++ ranges_from big p a b (k + 1)
  unfolding ranges_from
  ranges_next k o n h d e =
      let w = p.offsets.width in
      let v = p.lens.width in
      let c : p.count - k - 1 ≡ p.count - (k + 1) = omega arith in
      let left : 0 < p.count - k = omega arith in
      ranges_more big w v (w * k) (v * k) (p.count - k) a b p.place left
      ∙ ap (λ (t : List Picture). t ++ ranges p.place (numbers big w (w * k + w) (p.count - k - 1) a) (numbers big v (v * k + v) (p.count - k - 1) b))
      (ap (λ (x : ℕ). range_at p.place x (number big v (v * k) b)) (sym d) ∙ ap (range_at p.place o) (sym e))
      ∙ ap (λ (x : ℕ). range_at p.place o n ++ ranges p.place (numbers big w (w * k + w) x a) (numbers big v (v * k + v) x b)) c
      ∙ ap (λ (x : ℕ). range_at p.place o n ++ ranges p.place (numbers big w x (p.count - (k + 1)) a) (numbers big v (v * k + v) (p.count - (k + 1)) b)) (one_more w k)
      ∙ ap (λ (x : ℕ). range_at p.place o n ++ ranges p.place (numbers big w (w * (k + 1)) (p.count - (k + 1)) a) (numbers big v x (p.count - (k + 1)) b)) (one_more v k)

  pub ranges_end : (k : ℕ) → p.count ≤ k → ranges_from big p a b k ≡ []
  unfolding ranges_from
  ranges_end k h =
      let e : p.count - k ≡ 0 = omega arith in
      ap (λ (x : ℕ). ranges p.place (numbers big p.offsets.width (p.offsets.width * k) x a) (numbers big p.lens.width (p.lens.width * k) x b)) e

  few_left : (k : ℕ) → length (ranges_from big p a b k) ≤ p.count - k
  unfolding ranges_from
  few_left k =
      let few = ranges_few p.place (numbers big p.offsets.width (p.offsets.width * k) (p.count - k) a) (numbers big p.lens.width (p.lens.width * k) (p.count - k) b) in
      let count = numbers_count big p.offsets.width (p.offsets.width * k) (p.count - k) a in
      omega (arith, few, count)

  -- where as many ranges are left as numbers, the range of an index stands at that index
  pub range_there : (i k : ℕ) → k + i < p.count → length (ranges_from big p a b k) ≡ p.count - k
      → slice_get (spans_of (ranges_from big p a b k)) i ≡ slice_get (spans_of (ranges_from big p a b (k + i))) 0
  range_there zero k h e = ap (λ (j : ℕ). slice_get (spans_of (ranges_from big p a b j)) 0) (let z : k ≡ k + 0 = omega arith in z)
  range_there (suc i) k h e =
      let o = number big p.offsets.width (p.offsets.width * k) a in
      let n = number big p.lens.width (p.lens.width * k) b in
      let rest = ranges_from big p a b (k + 1) in
      let next = ranges_next k o n (omega (arith, h)) refl refl in
      let size = ap length next in
      let few = few_left (k + 1) in
      let m = p.count - (k + 1) in
      let all : length (range_at p.place o n ++ rest) ≡ suc m = omega (arith, size, e, h) in
      let s = skip_by (n == 0) (record { place = p.place; range = span o (o + n) }) rest i m few all in
      let at : k + 1 + i ≡ k + suc i = omega arith in
      ap (λ (t : List Picture). slice_get (spans_of t) (suc i)) next ∙ s.0
      ∙ range_there i (k + 1) (omega (arith, h)) s.1
      ∙ ap (λ (j : ℕ). slice_get (spans_of (ranges_from big p a b j)) 0) at

abbrev picture_as : ℕ → ℕ → ℕ → Picture
picture_as place o n = record { place = place; range = span o (o + n) }

some_at : (place o n : ℕ) → n ≢ 0 → range_at place o n ≡ picture_as place o n ∷ []
some_at place o n h = some_by (n == 0) refl where
  some_by : (t : Bool) → (n == 0) ≡ t → (if t then [] else picture_as place o n ∷ []) ≡ picture_as place o n ∷ []
  some_by false e = refl
  some_by true e = absurd (grind (arith, nat_tests, h))

module _ (len place o n : ℕ) (here rest : List Picture) (is : here ≡ range_at place o n ++ rest) where
  pub item_none : n ≡ 0 → here ≡ rest
  item_none e = is ∙ ap (λ (x : ℕ). range_at place o x ++ rest) e

  named : n ≢ 0 → here ≡ picture_as place o n ∷ rest
  named h = is ∙ ap (λ (t : List Picture). t ++ rest) (some_at place o n h)

  fault_by : (b : Bool) (end : ℕ) (s : Option TiffStop) → nat_lt len end ≡ b → (if nat_lt len end then Some (Fault RegionOut place 0 0) else s) ≡ (if b then Some (Fault RegionOut place 0 0) else s)
  fault_by b end s e = ap (λ (t : Bool). if t then Some (Fault RegionOut place 0 0) else s) e

  pub item_some : n ≢ 0 → o + n ≤ len → (here ≡ picture_as place o n ∷ rest) × (pictures_fault len here ≡ pictures_fault len rest)
  item_some h i =
      let inside : nat_lt len (o + n) ≡ false = grind (arith, nat_tests, i) in
      (named h, ap (pictures_fault len) (named h) ∙ fault_by false (o + n) (pictures_fault len rest) inside)

  pub item_out : n ≢ 0 → len < o + n → pictures_fault len here ≡ Some (Fault RegionOut place 0 0)
  item_out h i =
      let outside : nat_lt len (o + n) ≡ true = grind (arith, nat_tests, i) in
      ap (pictures_fault len) (named h) ∙ fault_by true (o + n) (pictures_fault len rest) outside
