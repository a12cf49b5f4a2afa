-- Portions that were picked from those of a file are those of them that are among the picked ones.
use Rattle.std.proofs.Common.{◌≡◌, ◌∙◌, ℕ, ◌<◌, ◌≤◌, ◌&&◌, ◌||◌, Bool, true, false, cond, List, [], ◌∷◌, refl, sym, ap, arith}
use Rattle.std.specs.Prelude.{filter, map}
use Rattle.std.specs.List.{list_any}
use Rattle.std.proofs.Math.Dec.{eqb}
use Rattle.std.proofs.lemmas.List.{length-map}
use Rattle.std.proofs.lemmas.Bool.{ne_eqb}
use Rattle.xmp_base.specs.declared.file_span.FileSpan.{FileSpan}
use Rattle.jpeg_regions.specs.Jpeg.{Region, is_extension, portion_payloads}
use Rattle.jpeg_regions.specs.Cutting.{Tiles}
use Rattle.jpeg_extended.specs.FromDesk.{picked, ArePicked}
use Rattle.jpeg_relocation.specs.Relocation.{same_span}
use Rattle.jpeg_relocation.specs.Runs.{AreAmong}
use Rattle.jpeg_relocation.proofs.Merged.{same_self}

-- ranges that start one after another, after a place
abbrev Rise : ℕ → List FileSpan → Type 0
Rise n [] = Unit {0}
Rise n (p ∷ ps) = (n < p.start) × Rise p.start ps

rise_wider : (m n : ℕ) (ps : List FileSpan) → m ≤ n → Rise n ps → Rise m ps
rise_wider m n [] less h = tt
rise_wider m n (p ∷ ps) less h = (omega (arith, less, h.0), h.1)

pub tiles_rise : (at end : ℕ) (rs : List Region) → Tiles at end rs → Rise at (portion_payloads rs)
tiles_rise at end [] h = tt
tiles_rise at end (r ∷ rs) h = by (is_extension r.kind) (filter (λ (x : Region). is_extension x.kind) rs) (tiles_rise r.range.end end rs h.4)
  where
    by : (b : Bool) (rest : List Region) → Rise r.range.end (map (λ (x : Region). x.payload) rest) → Rise at (map (λ (x : Region). x.payload) (cond b (r ∷ rest) rest))
    by true rest rise = (h.1, rise_wider r.payload.start r.range.end (map (λ (x : Region). x.payload) rest) (omega (arith, h.2, h.3)) rise)
    by false rest rise = rise_wider at r.range.end (map (λ (x : Region). x.payload) rest) (omega (arith, h.1, h.2, h.3)) rise

picked_rise : (fs : List Bool) (ps : List FileSpan) (n : ℕ) → Rise n ps → Rise n (picked fs ps)
picked_rise [] ps n h = tt
picked_rise (f ∷ fs) [] n h = tt
picked_rise (true ∷ fs) (p ∷ ps) n h = (h.0, picked_rise fs ps p.start h.1)
picked_rise (false ∷ fs) (p ∷ ps) n h = rise_wider n p.start (picked fs ps) (omega (arith, h.0)) (picked_rise fs ps p.start h.1)

-- a range that starts before or after another is another
before_other : (x y : FileSpan) → x.start < y.start → same_span x y ≡ false
before_other x y less = let e = ne_eqb x.start y.start (λ h. omega (arith, less, h)) in ap (λ (b : Bool). b && eqb x.end y.end) e

after_other : (x y : FileSpan) → y.start < x.start → same_span x y ≡ false
after_other x y less = let e = ne_eqb x.start y.start (λ h. omega (arith, less, h)) in ap (λ (b : Bool). b && eqb x.end y.end) e

none_after : (x : FileSpan) (ps : List FileSpan) (n : ℕ) → x.start ≤ n → Rise n ps → list_any (same_span x) ps ≡ false
none_after x [] n less h = refl
none_after x (p ∷ ps) n less h =
    let first = before_other x p (omega (arith, less, h.0)) in
    let rest = none_after x ps p.start (omega (arith, less, h.0)) h.1 in
    λ i. first i || rest i

filter_same : (p q : FileSpan → Bool) (xs : List FileSpan) (n : ℕ) → Rise n xs → ((y : FileSpan) → n < y.start → p y ≡ q y) → filter p xs ≡ filter q xs
filter_same p q [] n rise same = refl
filter_same p q (x ∷ xs) n rise same =
    let rest = filter_same p q xs x.start rise.1 (λ y less. same y (omega (arith, less, rise.0))) in
    let first = same x rise.0 in
    λ i. cond (first i) (x ∷ rest i) (rest i)

none_stays : (xs : List FileSpan) → [] ≡ filter (λ (p : FileSpan). false) xs
none_stays [] = refl
none_stays (x ∷ xs) = none_stays xs

abbrev IsIn : List FileSpan → FileSpan → Bool
IsIn some p = list_any (same_span p) some

pub picked_filter : (fs : List Bool) (xs : List FileSpan) (n : ℕ) → Rise n xs → picked fs xs ≡ filter (IsIn (picked fs xs)) xs
picked_filter [] xs n rise = none_stays xs
picked_filter (f ∷ fs) [] n rise = refl
picked_filter (true ∷ fs) (x ∷ xs) n rise =
    let rest : List FileSpan = picked fs xs in
    let inner : filter (IsIn rest) xs ≡ filter (IsIn (x ∷ rest)) xs =
    filter_same (IsIn rest) (IsIn (x ∷ rest)) xs x.start rise.1 (λ y less. ap (λ (b : Bool). b || IsIn rest y) (sym (after_other y x less))) in
    let top : IsIn (x ∷ rest) x ≡ true = ap (λ (b : Bool). b || IsIn rest x) (same_self x) in
    ap (λ (l : List FileSpan). x ∷ l) (picked_filter fs xs x.start rise.1 ∙ inner)
    ∙ sym (ap (λ (b : Bool). cond b (x ∷ filter (IsIn (x ∷ rest)) xs) (filter (IsIn (x ∷ rest)) xs)) top)
picked_filter (false ∷ fs) (x ∷ xs) n rise =
    let rest : List FileSpan = picked fs xs in
    let top : IsIn rest x ≡ false = none_after x rest x.start (omega arith) (picked_rise fs xs x.start rise.1) in
    picked_filter fs xs x.start rise.1 ∙ sym (ap (λ (b : Bool). cond b (x ∷ filter (IsIn rest) xs) (filter (IsIn rest) xs)) top)

pub picked_among : (size : ℕ) (joined : List FileSpan) (regions : List Region) → Tiles 2 size regions → ArePicked joined (portion_payloads regions) → AreAmong joined (portion_payloads regions)
picked_among size joined regions tiles p = record {
  chosen = IsIn (picked p.flags (portion_payloads regions));
  is = p.is ∙ picked_filter p.flags (portion_payloads regions) 2 (tiles_rise 2 size regions tiles);
}

none_picked_by : (all : List FileSpan) → [] ≡ picked (map (λ (p : FileSpan). false) all) all
none_picked_by [] = refl
none_picked_by (x ∷ xs) = none_picked_by xs

-- none is some of all
pub none_picked : (all : List FileSpan) → ArePicked [] all
none_picked all = record { flags = map (λ (p : FileSpan). false) all; as_many = length-map all (λ (p : FileSpan). false); is = none_picked_by all }
