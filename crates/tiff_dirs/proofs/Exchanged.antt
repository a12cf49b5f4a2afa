-- A file whose first directory is exchanged for another that names the same offsets.
use Rattle.std.proofs.Common.{◌≡◌, ◌≢◌, ◌==◌, ℕ, zero, suc, ◌≤◌, nat_le, nat_lt, ◌&&◌, ◌||◌, not, Bool, true, false, if◌then◌else◌, List, [], ◌∷◌, ◌++◌, length, take, map, refl, sym, ap, subst, ◌∙◌, arith, None, Some, Contains}
use Rattle.std.specs.declared.option.Option.{Option}
use Rattle.std.specs.List.{flat_map, slice_get, list_any}
use Rattle.std.proofs.lemmas.Bool.Decides.{nat_tests}
use Rattle.std.proofs.lemmas.List.Elements.{All-contains}
use Rattle.xmp_base.specs.declared.file_span.FileSpan.{FileSpan}
use Rattle.xmp_values.specs.declared.rules.Rule.TheVariants.{DirectoryLong, DirectoryOut, DirectoryTwice, TooManyDirectories}
use Rattle.tiff_dirs.specs.declared.layout.Layout.{Layout}
use Rattle.tiff_dirs.specs.declared.stop.TiffStop.{TiffStop}
use Rattle.tiff_dirs.specs.declared.stop.TiffStop.TheVariants.{Fault}
use Rattle.tiff_dirs.specs.Layouts.{Widths, layout_of}
use Rattle.tiff_dirs.specs.Directories.{children, entries_at, count_at, end_at}
use Rattle.tiff_dirs.specs.Faults.{broken, inner_fault, place_fault, fault_at}
use Rattle.tiff_dirs.specs.Offsets.{first_offset, all_named, Reaches, Walks}
use Rattle.tiff_dirs.specs.Tiff.{Dir, dir_at, pictures_at}
use Rattle.tiff_dirs.specs.Tables.{tables_at}
use Rattle.tiff_dirs.specs.Frames.{bytes_in, Agree}
use Rattle.tiff_dirs.proofs.Framed.{layout_widths, or_first, or_second, or_none, member, tail_member, children_same, fault_same, dir_same, shown_same}
use Rattle.tiff_dirs.proofs.Unique.{front_in}
use Rattle.tiff_dirs.proofs.Walks.{flat_in}

any_by : (m y z : Bool) (x u r : Option TiffStop) → (z ≡ true → y ≡ true) → x ≢ None → u ≢ None → (if m then x else (if y then u else r)) ≡ None → (if m then x else (if z then u else r)) ≡ None
any_by true y z x u r h nx nu e = absurd (nx e)
any_by false true z x u r h nx nu e = absurd (nu e)
any_by false false true x u r h nx nu e = absurd (let k = h refl in (cc))
any_by false false false x u r h nx nu e = e

or_right : (p q r : Bool) → p ≡ false → (p || r) ≡ true → (q || r) ≡ true
or_right false true r e h = refl
or_right false false r e h = h
or_right true q r e h = (cc)

differs : (m n : ℕ) → m ≢ n → (m == n) ≡ false
differs m n h = grind (arith, nat_tests, h)

-- another offset stands before
before_other : (l : Layout) (file xs : List ℕ) (at new x : ℕ) → new ≢ x → fault_at l file (at ∷ xs) x ≡ None → fault_at l file (new ∷ xs) x ≡ None
unfolding fault_at place_fault
before_other l file xs at new x h e =
    let inner = inner_fault l file (length (at ∷ xs) == 0) (entries_at l file x) in
    let place = or_first (place_fault l file (at ∷ xs) x) inner e in
    or_none (place_fault l file (new ∷ xs) x) inner
    (any_by (nat_le 1000 (length (at ∷ xs))) (list_any (λ y. y == x) (at ∷ xs)) (list_any (λ y. y == x) (new ∷ xs)) (broken TooManyDirectories x) (broken DirectoryTwice x)
    (if not (nat_le l.header x && nat_le (end_at l file x) (length file)) then broken DirectoryOut x
    else (if nat_lt 65535 (count_at l file x) then Some (Fault DirectoryLong x (count_at l file x) 65535) else None))
    (or_right (new == x) (at == x) (list_any (λ y. y == x) xs) (differs new x h)) (λ i. (cc)) (λ i. (cc)) place)
    (or_second (place_fault l file (at ∷ xs) x) inner e)

module _ (l : Layout) (widths : Widths l) (a b : List ℕ) (longer : length a ≤ length b) (rest : List ℕ) (same : (r : FileSpan) → Contains (flat_map (tables_at l a) rest) r → bytes_in b r ≡ bytes_in a r) where
  at_same : (x : ℕ) → Contains rest x → (r : FileSpan) → Contains (tables_at l a x) r → bytes_in b r ≡ bytes_in a r
  at_same x h r m = same r (flat_in (tables_at l a) rest x r h m)

  named_all : (xs : List ℕ) → ((x : ℕ) → Contains xs x → Contains rest x) → flat_map (children l b) xs ≡ flat_map (children l a) xs
  named_all [] sub = refl
  named_all (x ∷ xs) sub =
      ap (λ (t : List ℕ). t ++ flat_map (children l b) xs) (children_same l widths a b longer x (at_same x (sub x (0, omega arith, refl))))
      ∙ ap (λ (t : List ℕ). children l a x ++ t) (named_all xs (λ y h. sub y (tail_member x xs y h)))

  pub dirs_all : (xs : List ℕ) → ((x : ℕ) → Contains xs x → Contains rest x) → map (dir_at l b) xs ≡ map (dir_at l a) xs
  dirs_all [] sub = refl
  dirs_all (x ∷ xs) sub =
      ap (λ (d : Dir). d ∷ map (dir_at l b) xs) (dir_same l widths a b longer x (at_same x (sub x (0, omega arith, refl))))
      ∙ ap (λ (t : List Dir). dir_at l a x ∷ t) (dirs_all xs (λ y h. sub y (tail_member x xs y h)))

  pub shown_all : (xs : List ℕ) → ((x : ℕ) → Contains xs x → Contains rest x) → flat_map (pictures_at l b) xs ≡ flat_map (pictures_at l a) xs
  shown_all [] sub = refl
  shown_all (x ∷ xs) sub =
      ap (λ (t : List FileSpan). t ++ flat_map (pictures_at l b) xs) (shown_same l widths a b longer x (at_same x (sub x (0, omega arith, refl))))
      ∙ ap (λ (t : List FileSpan). pictures_at l a x ++ t) (shown_all xs (λ y h. sub y (tail_member x xs y h)))

  module _ (at new : ℕ) (first : first_offset l b ≡ new) (names : children l b new ≡ children l a at) (clear : fault_at l b [] new ≡ None) (fresh : Contains rest new → ⊥) where
    after : (xs : List ℕ) → ((x : ℕ) → Contains xs x → Contains rest x) → children l b new ++ flat_map (children l b) xs ≡ children l a at ++ flat_map (children l a) xs
    after xs sub = ap (λ (t : List ℕ). t ++ flat_map (children l b) xs) names ∙ ap (λ (t : List ℕ). children l a at ++ t) (named_all xs sub)

    each_by : Reaches l a (at ∷ rest) → (k x : ℕ) → slice_get (new ∷ rest) k ≡ Some x → slice_get (all_named l b (take k (new ∷ rest))) k ≡ Some x
    unfolding all_named
    each_by r zero x e = ap Some first ∙ e
    each_by r (suc k) x e = ap (λ (t : List ℕ). slice_get t k) (after (take k rest) (λ y h. front_in rest k y h)) ∙ r.each (suc k) x e

    sound_by : Reaches l a (at ∷ rest) → (k x : ℕ) → slice_get (new ∷ rest) k ≡ Some x → fault_at l b (take k (new ∷ rest)) x ≡ None
    sound_by r zero x e = let is : new ≡ x = (cc e) in subst (λ (n : ℕ). fault_at l b [] n ≡ None) is clear
    sound_by r (suc k) x e =
        let within : Contains rest x = member rest k x e in
        let apart : new ≢ x = (λ same. fresh (subst (λ (n : ℕ). Contains rest n) (sym same) within)) in
        before_other l b (take k rest) at new x apart (fault_same l widths a b longer x (at_same x within) (at ∷ take k rest) (r.sound (suc k) x e))

    all_by : all_named l a (at ∷ rest) ≡ at ∷ rest → all_named l b (new ∷ rest) ≡ new ∷ rest
    unfolding all_named
    all_by e =
        let tail : children l a at ++ flat_map (children l a) rest ≡ rest = (cc e) in
        ap (λ (n : ℕ). n ∷ (children l b new ++ flat_map (children l b) rest)) first ∙ ap (λ (t : List ℕ). new ∷ t) (after rest (λ y h. h) ∙ tail)

    pub reaches_by : Reaches l a (at ∷ rest) → Reaches l b (new ∷ rest)
    reaches_by r = record { each = each_by r; sound = sound_by r }

pub exchanged : (a b : List ℕ) (at new : ℕ) (rest : List ℕ) → Walks a (at ∷ rest) → length a ≤ length b → layout_of b ≡ layout_of a
    → first_offset (layout_of a) b ≡ new → children (layout_of a) b new ≡ children (layout_of a) a at → fault_at (layout_of a) b [] new ≡ None → (Contains rest new → ⊥)
    → Agree a b (flat_map (tables_at (layout_of a) a) rest)
    → Walks b (new ∷ rest) × (map (dir_at (layout_of b) b) rest ≡ map (dir_at (layout_of a) a) rest)
    × (flat_map (pictures_at (layout_of b) b) rest ≡ flat_map (pictures_at (layout_of a) a) rest)
exchanged a b at new rest w longer one first names clear fresh agree =
    let l = layout_of a in
    let widths = layout_widths a in
    let back = sym one in
    let same : (r : FileSpan) → Contains (flat_map (tables_at l a) rest) r → bytes_in b r ≡ bytes_in a r = λ r h. All-contains (λ x. bytes_in b x ≡ bytes_in a x) (flat_map (tables_at l a) rest) r agree h in
    let header : l.header ≤ length b = (let h = w.header in omega (arith, h, longer)) in
    let reaches : Reaches l b (new ∷ rest) = reaches_by l widths a b longer rest same at new first names clear fresh w.reaches in
    let all : all_named l b (new ∷ rest) ≡ new ∷ rest = all_by l widths a b longer rest same at new first names clear fresh w.all in (
      record {
        header = subst (λ (m : Layout). m.header ≤ length b) back header;
        reaches = subst (λ (m : Layout). Reaches m b (new ∷ rest)) back reaches;
        all = subst (λ (m : Layout). all_named m b (new ∷ rest) ≡ new ∷ rest) back all;
      },
      ap (λ (m : Layout). map (dir_at m b) rest) one ∙ dirs_all l widths a b longer rest same rest (λ x h. h),
      ap (λ (m : Layout). flat_map (pictures_at m b) rest) one ∙ shown_all l widths a b longer rest same rest (λ x h. h),
    )
