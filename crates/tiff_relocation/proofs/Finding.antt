-- The first directory, and where the new entry stands among its entries.
use Rattle.std.proofs.Common.{◌≡◌, ℕ, ◌+◌, ◌<◌, ◌≤◌, List, [], ◌∷◌, drop, refl, sym, ap, arith, Some}
use Rattle.std.specs.List.{slice_get}
use Rattle.std.specs.Option.{option_map}
use Rattle.std.proofs.lemmas.Bool.Decides.{nat_tests}
use Rattle.tiff_dirs.specs.declared.entry.Entry.{Entry}
use Rattle.tiff_dirs.specs.Tiff.{Dir, entries_in}
use Rattle.tiff_dirs.proofs.Nearest.{drop_at}
use Rattle.tiff_relocation.specs.Relocation.{entries_before, first_dir}

pub first_entries : (ds : List Dir) → entries_in (slice_get ds 0) ≡ (first_dir ds).entries
first_entries [] = refl
first_entries (d ∷ ds) = refl

pub first_at : (ds : List Dir) (x : ℕ) → option_map (λ (d : Dir). d.at) (slice_get ds 0) ≡ Some x → x ≡ (first_dir ds).at
first_at [] x h = absurd (cc h)
first_at (d ∷ ds) x h = sym (cc h)

pub first_end : (ds : List Dir) (x : ℕ) → option_map (λ (d : Dir). d.end) (slice_get ds 0) ≡ Some x → x ≡ (first_dir ds).end
first_end [] x h = absurd (cc h)
first_end (d ∷ ds) x h = sym (cc h)

-- the first entry of a greater tag, by what is left
pub greater_here : (es : List Entry) (i : ℕ) (e : Entry) → slice_get es i ≡ Some e → 700 < e.tag → i + entries_before (drop i es) ≡ entries_before es → i ≡ entries_before es
greater_here es i e at h inv =
    let here : entries_before (drop i es) ≡ entries_before (e ∷ drop (i + 1) es) = ap entries_before (drop_at es i e at) in
    let none : entries_before (e ∷ drop (i + 1) es) ≡ 0 = grind (arith, nat_tests, h) in
    omega (arith, here, none, inv)

pub greater_after : (es : List Entry) (i : ℕ) (e : Entry) → slice_get es i ≡ Some e → e.tag ≤ 700 → i + entries_before (drop i es) ≡ entries_before es
    → i + 1 + entries_before (drop (i + 1) es) ≡ entries_before es
greater_after es i e at h inv =
    let here : entries_before (drop i es) ≡ entries_before (e ∷ drop (i + 1) es) = ap entries_before (drop_at es i e at) in
    let one : entries_before (e ∷ drop (i + 1) es) ≡ 1 + entries_before (drop (i + 1) es) = grind (arith, nat_tests, h) in
    omega (arith, here, one, inv)
