-- Whether a directory that is reached can be read.
use Rattle.std.proofs.Common.{◌≡◌, ℕ, ◌+◌, ◌*◌, ◌<◌, ◌≤◌, ◌==◌, nat_le, nat_lt, not, ◌&&◌, Bool, true, false, if◌then◌else◌, List, length, refl, sym, subst, ◌∙◌, arith, Some, None}
use Rattle.std.specs.declared.option.Option.{Option}
use Rattle.std.specs.List.{list_any}
use Rattle.std.proofs.lemmas.Bool.Decides.{nat_tests}
use Rattle.xmp_values.specs.declared.rules.Rule.TheVariants.{DirectoryOut, DirectoryTwice, TooManyDirectories, DirectoryLong}
use Rattle.tiff_dirs.specs.declared.layout.Layout.{Layout}
use Rattle.tiff_dirs.specs.declared.stop.TiffStop.{TiffStop}
use Rattle.tiff_dirs.specs.declared.stop.TiffStop.TheVariants.{Fault}
use Rattle.tiff_dirs.specs.Directories.{count_at, end_at}
use Rattle.tiff_dirs.specs.Faults.{broken, place_fault}
use Rattle.tiff_dirs.specs.Walking.{Admitted}

module _ (l : Layout) (file before : List ℕ) (at : ℕ) where
  abbrev pub is_inside : ℕ → Bool
  is_inside len = nat_le l.header at && nat_le (end_at l file at) len

  -- a directory of n entries that lies in the file
  inside_by : (c n len : ℕ) → n ≡ c → l.header ≤ at → at + l.count + l.entry * n + l.word ≤ len
      → Some n ≡ (if nat_le l.header at && nat_le (at + l.count + l.entry * c + l.word) len then Some c else None)
  inside_by c n len e h i =
      let P : ℕ → Type 0 = λ (k : ℕ). Some n ≡ (if nat_le l.header at && nat_le (at + l.count + l.entry * k + l.word) len then Some k else None) in
      let here : P n = grind (arith, nat_tests, h, i) in
      subst P e here

  pub inside : (n len : ℕ) → n ≡ count_at l file at → l.header ≤ at → at + l.count + l.entry * n + l.word ≤ len
      → Some n ≡ (if is_inside len then Some (count_at l file at) else None)
  inside n len e h i = inside_by (count_at l file at) n len e h i

  outside_by : (c n len : ℕ) → n ≡ c → len < at + l.count + l.entry * n + l.word
      → None ≡ (if nat_le l.header at && nat_le (at + l.count + l.entry * c + l.word) len then Some c else None)
  outside_by c n len e i =
      let P : ℕ → Type 0 = λ (k : ℕ). None ≡ (if nat_le l.header at && nat_le (at + l.count + l.entry * k + l.word) len then Some k else None) in
      let here : P n = grind (arith, nat_tests, i) in
      subst P e here

  pub outside : (n len : ℕ) → n ≡ count_at l file at → len < at + l.count + l.entry * n + l.word
      → None ≡ (if is_inside len then Some (count_at l file at) else None)
  outside n len e i = outside_by (count_at l file at) n len e i

  pub too_many : 1000 ≤ length before → place_fault l file before at ≡ broken TooManyDirectories at
  unfolding place_fault
  too_many h = grind (arith, nat_tests, h)

  twice_by : (many any : Bool) (rest : Option TiffStop) → many ≡ false → any ≡ true
      → (if many then broken TooManyDirectories at else (if any then broken DirectoryTwice at else rest)) ≡ broken DirectoryTwice at
  twice_by false true rest a b = refl
  twice_by true any rest a b = (cc)
  twice_by false false rest a b = (cc)

  few : length before < 1000 → nat_le 1000 (length before) ≡ false
  few h = grind (arith, nat_tests, h)

  pub twice : length before < 1000 → list_any (λ b. b == at) before ≡ true → place_fault l file before at ≡ broken DirectoryTwice at
  unfolding place_fault
  twice h e = twice_by (nat_le 1000 (length before)) (list_any (λ b. b == at) before) _ (few h) e

  rest_by : (many any : Bool) (rest : Option TiffStop) → many ≡ false → any ≡ false
      → (if many then broken TooManyDirectories at else (if any then broken DirectoryTwice at else rest)) ≡ rest
  rest_by false false rest a b = refl
  rest_by true any rest a b = (cc)
  rest_by false true rest a b = (cc)

  out_by : (b : Bool) (c : ℕ) (long : Bool) (rest : Option TiffStop) → None ≡ (if b then Some c else None)
      → (if not b then broken DirectoryOut at else rest) ≡ broken DirectoryOut at
  out_by true c long rest e = (cc)
  out_by false c long rest e = refl

  in_by : (b : Bool) (c n : ℕ) (rest : Option TiffStop) → Some n ≡ (if b then Some c else None)
      → ((if not b then broken DirectoryOut at else rest) ≡ rest) × (n ≡ c)
  in_by true c n rest e = (refl, cc)
  in_by false c n rest e = (cc)

  pub out : (len : ℕ) → length file ≡ len → length before < 1000 → list_any (λ b. b == at) before ≡ false
      → None ≡ (if is_inside len then Some (count_at l file at) else None) → place_fault l file before at ≡ broken DirectoryOut at
  unfolding place_fault
  out len size h e i =
      let here : None ≡ (if is_inside (length file) then Some (count_at l file at) else None) = subst (λ (k : ℕ). None ≡ (if is_inside k then Some (count_at l file at) else None)) (sym size) i in
      rest_by (nat_le 1000 (length before)) (list_any (λ b. b == at) before) _ (few h) e
      ∙ out_by (is_inside (length file)) (count_at l file at) true _ here

  long_by : (c n : ℕ) → n ≡ c → 65535 < n → (if nat_lt 65535 c then Some (Fault DirectoryLong at c 65535) else None) ≡ Some (Fault DirectoryLong at n 65535)
  long_by c n e h =
      let P : ℕ → Type 0 = λ (k : ℕ). (if nat_lt 65535 k then Some (Fault DirectoryLong at k 65535) else None) ≡ Some (Fault DirectoryLong at n 65535) in
      let here : P n = grind (arith, nat_tests, h) in
      subst P e here

  short_by : (c n : ℕ) → n ≡ c → n ≤ 65535 → (if nat_lt 65535 c then Some (Fault DirectoryLong at c 65535) else None) ≡ None
  short_by c n e h =
      let P : ℕ → Type 0 = λ (k : ℕ). (if nat_lt 65535 k then Some (Fault DirectoryLong at k 65535) else None) ≡ None in
      let here : P n = grind (arith, nat_tests, h) in
      subst P e here

  known : (len n : ℕ) → length file ≡ len → Some n ≡ (if is_inside len then Some (count_at l file at) else None) → Some n ≡ (if is_inside (length file) then Some (count_at l file at) else None)
  known len n size i = subst (λ (k : ℕ). Some n ≡ (if is_inside k then Some (count_at l file at) else None)) (sym size) i

  pub long : (len n : ℕ) → length file ≡ len → length before < 1000 → list_any (λ b. b == at) before ≡ false
      → Some n ≡ (if is_inside len then Some (count_at l file at) else None) → 65535 < n → place_fault l file before at ≡ Some (Fault DirectoryLong at n 65535)
  unfolding place_fault
  long len n size h e i j =
      let k = in_by (is_inside (length file)) (count_at l file at) n (if nat_lt 65535 (count_at l file at) then Some (Fault DirectoryLong at (count_at l file at) 65535) else None) (known len n size i) in
      rest_by (nat_le 1000 (length before)) (list_any (λ b. b == at) before) _ (few h) e ∙ k.0 ∙ long_by (count_at l file at) n k.1 j

  pub admitted : (len n : ℕ) → length file ≡ len → length before < 1000 → list_any (λ b. b == at) before ≡ false
      → Some n ≡ (if is_inside len then Some (count_at l file at) else None) → n ≤ 65535 → at + l.count + l.entry * n + l.word ≤ len → Admitted l file before at n
  unfolding place_fault
  admitted len n size h e i j room =
      let k = in_by (is_inside (length file)) (count_at l file at) n (if nat_lt 65535 (count_at l file at) then Some (Fault DirectoryLong at (count_at l file at) 65535) else None) (known len n size i) in
      record {
        clear = rest_by (nat_le 1000 (length before)) (list_any (λ b. b == at) before) _ (few h) e ∙ k.0 ∙ short_by (count_at l file at) n k.1 j;
        count = k.1;
        room = omega (arith, room, size);
        few = h;
      }

pub le_of : (a b : ℕ) → nat_le a b ≡ true → a ≤ b
le_of a b h = grind (arith, nat_tests, h)

pub lt_of : (a b : ℕ) → nat_le a b ≡ false → b < a
lt_of a b h = grind (arith, nat_tests, h)
