-- What a relocation keeps of a file lies in it.
use Rattle.std.proofs.Common.{◌≡◌, ℕ, zero, suc, ◌≤◌, Bool, true, false, cond, List, [], ◌∷◌, take, drop, refl, arith}
use Rattle.std.specs.Prelude.{All, filter, ◌==◌}
use Rattle.std.proofs.lemmas.Bool.{eqb-true}
use Rattle.std.proofs.lemmas.List.Elements.{All-nil, All-cons, All-append}
use Rattle.xmp_base.specs.declared.file_span.FileSpan.{FileSpan}
use Rattle.jpeg_regions.specs.Jpeg.{Region, span}
use Rattle.jpeg_regions.specs.Cutting.{Tiles}
use Rattle.jpeg_relocation.specs.Relocation.{is_kept, kept, place, before, after}
use Rattle.jpeg_relocation.specs.Runs.{in_front, runs}
use Rattle.xmp_files.specs.declared.parts.FilePart.{FilePart}
use Rattle.xmp_files.specs.declared.parts.FilePart.TheVariants.{Old, New}
use Rattle.xmp_files.specs.NewFiles.{PartLies, old_parts, kept_parts}

abbrev RegionsLie : ℕ → List Region → Type 0
RegionsLie n [] = Unit {0}
RegionsLie n (r ∷ rs) = (r.range.start ≤ r.range.end) × (r.range.end ≤ n) × RegionsLie n rs

abbrev pub SpansLie : ℕ → List FileSpan → Type 0
SpansLie n [] = Unit {0}
SpansLie n (s ∷ ss) = (s.start ≤ s.end) × (s.end ≤ n) × SpansLie n ss

pub tiles_order : (at end : ℕ) (rs : List Region) → Tiles at end rs → at ≤ end
tiles_order at end [] h = omega (arith, h)
tiles_order at end (r ∷ rs) h = omega (arith, h.1, h.2, h.3, tiles_order r.range.end end rs h.4)

tiles_lie : (at end : ℕ) (rs : List Region) → Tiles at end rs → RegionsLie end rs
tiles_lie at end [] h = tt
tiles_lie at end (r ∷ rs) h = (omega (arith, h.0, h.1, h.2, h.3), tiles_order r.range.end end rs h.4, tiles_lie r.range.end end rs h.4)

filter_lie : (p : Region → Bool) (n : ℕ) (rs : List Region) → RegionsLie n rs → RegionsLie n (filter p rs)
filter_lie p n [] h = tt
filter_lie p n (r ∷ rs) h = by (p r) (filter p rs) (filter_lie p n rs h.2)
  where
    by : (b : Bool) (rest : List Region) → RegionsLie n rest → RegionsLie n (cond b (r ∷ rest) rest)
    by true rest lie = (h.0, h.1, lie)
    by false rest lie = lie

take_lie : (k n : ℕ) (rs : List Region) → RegionsLie n rs → RegionsLie n (take k rs)
take_lie zero n rs h = tt
take_lie (suc k) n [] h = tt
take_lie (suc k) n (r ∷ rs) h = (h.0, h.1, take_lie k n rs h.2)

drop_lie : (k n : ℕ) (rs : List Region) → RegionsLie n rs → RegionsLie n (drop k rs)
drop_lie zero n rs h = h
drop_lie (suc k) n [] h = tt
drop_lie (suc k) n (r ∷ rs) h = drop_lie k n rs h.2

front_lie : (n : ℕ) (r : FileSpan) (ss : List FileSpan) → r.start ≤ r.end → r.end ≤ n → SpansLie n ss → SpansLie n (in_front r ss)
front_lie n r [] order within h = (order, within, tt)
front_lie n r (s ∷ ss) order within h = by (r.end == s.start) refl
  where
    by : (b : Bool) → (r.end == s.start) ≡ b → SpansLie n (cond b (span r.start s.end ∷ ss) (r ∷ s ∷ ss))
    by true e = (omega (arith, order, h.0, eqb-true r.end s.start e), h.1, h.2)
    by false e = (order, within, h)

runs_lie : (n : ℕ) (rs : List Region) → RegionsLie n rs → SpansLie n (runs rs)
runs_lie n [] h = tt
runs_lie n (r ∷ rs) h = front_lie n r.range (runs rs) h.0 h.1 (runs_lie n rs h.2)

old_lie : (n count : ℕ) (ss : List FileSpan) → SpansLie n ss → All (PartLies n count) (old_parts ss)
old_lie n count [] h = All-nil (PartLies n count)
old_lie n count (s ∷ ss) h = All-cons (PartLies n count) (Old s) (old_parts ss) (h.0, h.1) (old_lie n count ss h.2)

module _ (size : ℕ) (regions : List Region) (joined : List FileSpan) (tiles : Tiles 2 size regions) where
  kept_lie : RegionsLie size (kept joined regions)
  kept_lie = filter_lie (is_kept joined) size regions (tiles_lie 2 size regions tiles)

  pub before_lie : SpansLie size (runs (before joined regions))
  before_lie = runs_lie size (before joined regions) (take_lie (place joined regions) size (kept joined regions) kept_lie)

  pub after_lie : SpansLie size (runs (after joined regions))
  after_lie = runs_lie size (after joined regions) (drop_lie (place joined regions) size (kept joined regions) kept_lie)

  pub kept_parts_lie : (count : ℕ) → All (PartLies size count) (kept_parts (runs (before joined regions)) (runs (after joined regions)) count)
  kept_parts_lie count =
      let P : FilePart → Type 0 = PartLies size count in
      let first = old_lie size count (runs (before joined regions)) before_lie in
      let last = old_lie size count (runs (after joined regions)) after_lie in
      All-append P (Old (span 0 2) ∷ old_parts (runs (before joined regions))) (New (span 0 count) ∷ old_parts (runs (after joined regions)))
      (All-cons P (Old (span 0 2)) (old_parts (runs (before joined regions))) (omega arith, tiles_order 2 size regions tiles) first)
      (All-cons P (New (span 0 count)) (old_parts (runs (after joined regions))) (omega arith, omega arith) last)
