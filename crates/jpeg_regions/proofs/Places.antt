-- The regions of a file lie apart from each other.
use Rattle.std.proofs.Common.{◌≡◌, ℕ, zero, suc, ◌+◌, ◌<◌, ◌≤◌, Bool, true, false, cond, List, [], ◌∷◌, ◌++◌, length, refl, sym, ap, subst, ◌∙◌, arith, inl, inr, Some}
use Rattle.std.specs.Prelude.{flat_map, slice_get}
use Rattle.std.specs.List.{AllByRecursion}
use Rattle.std.proofs.lemmas.List.{length-append}
use Rattle.jpeg_regions.specs.declared.marker.Class.{Class}
use Rattle.jpeg_regions.specs.declared.marker.Class.TheVariants.{Fill, Refused, Single, Last, Sized}
use Rattle.jpeg_regions.specs.Markers.{class_of}
use Rattle.jpeg_regions.specs.Jpeg.{Segment, Region, text, region, region_by, placed, IsInner, IsTail, HasLength, Cuts, mains, is_main}
use Rattle.jpeg_regions.specs.Cutting.{Tiles}
use Rattle.jpeg_regions.proofs.Found.{length-text}
use Rattle.jpeg_regions.proofs.Unique.{IsSegment}
use Rattle.jpeg_regions.proofs.Faults.{sized_body}

-- a region is where its segment stands, with its payload inside
record Stands (at len : ℕ) (r : Region) : Type 0 where
  start : r.range.start ≡ at
  begins : at < r.payload.start
  order : r.payload.start ≤ r.payload.end
  inside : r.payload.end ≤ r.range.end
  end : r.range.end ≡ at + len

length_two : (body : List ℕ) → HasLength body → 2 ≤ length body
length_two [] h = absurd h
length_two (c ∷ []) h = absurd h
length_two (c ∷ d ∷ p) h = omega arith

stands_by : (c : Class) (at : ℕ) (s : Segment) → (c ≡ Sized → HasLength s.body) → Stands at (length (text s)) (region_by c at s)
stands_by Fill at s h = record { start = refl; begins = omega arith; order = omega arith; inside = omega (arith, length-text s); end = refl }
stands_by Refused at s h = record { start = refl; begins = omega arith; order = omega arith; inside = omega (arith, length-text s); end = refl }
stands_by Single at s h = record { start = refl; begins = omega arith; order = omega arith; inside = omega (arith, length-text s); end = refl }
stands_by Last at s h = record { start = refl; begins = omega arith; order = omega arith; inside = omega (arith, length-text s); end = refl }
stands_by Sized at s h = record { start = refl; begins = omega arith; order = omega (arith, length-text s, length_two s.body (h refl)); inside = omega arith; end = refl }

stands : (at : ℕ) (s : Segment) → IsSegment s → Stands at (length (text s)) (region at s)
stands at s i = stands_by (class_of s.marker) at s (sized_body s i)

tiles_placed : (at : ℕ) (ss : List Segment) → AllByRecursion IsSegment ss → Tiles at (at + length (flat_map text ss)) (placed at ss)
tiles_placed at [] h = omega arith
tiles_placed at (s ∷ ss) h =
    let r = stands at s h.0 in
    let size = length-append (text s) (flat_map text ss) in
    let rest : Tiles (at + length (text s)) (at + length (text s) + length (flat_map text ss)) (placed (at + length (text s)) ss) = tiles_placed (at + length (text s)) ss h.1 in
    let more : at + length (text s) + length (flat_map text ss) ≡ at + length (flat_map text (s ∷ ss)) = omega (arith, size) in (
      r.start,
      r.begins,
      r.order,
      r.inside,
      subst (λ (k : ℕ). Tiles k (at + length (flat_map text (s ∷ ss))) (placed (at + length (text s)) ss)) (sym r.end)
          (subst (λ (k : ℕ). Tiles (at + length (text s)) k (placed (at + length (text s)) ss)) more rest),
    )

all_segments : (ss : List Segment) (tail : Segment) → AllByRecursion IsInner ss → IsTail tail → AllByRecursion IsSegment (ss ++ tail ∷ [])
all_segments [] tail a t = (inr t, tt)
all_segments (s ∷ ss) tail a t = (inl a.0, all_segments ss tail a.1 t)

-- the regions of a file tile it, its first two bytes apart
pub cuts_tile : (file : List ℕ) (regions : List Region) → Cuts file regions → Tiles 2 (length file) regions
cuts_tile file regions c =
    let ss : List Segment = c.segments ++ c.tail ∷ [] in
    let size : 2 + length (flat_map text ss) ≡ length file = omega arith ∙ sym (ap (λ (l : List ℕ). length l) c.bytes) in
    subst (Tiles 2 (length file)) (sym c.listed) (subst (λ (k : ℕ). Tiles 2 k (placed 2 ss)) size (tiles_placed 2 ss (all_segments c.segments c.tail c.inner c.last)))

-- a region lies between two places, with its payload inside
pub record Lies (at end : ℕ) (r : Region) : Type 0 where
  pub from : at ≤ r.range.start
  pub begins : r.range.start < r.payload.start
  pub order : r.payload.start ≤ r.payload.end
  pub inside : r.payload.end ≤ r.range.end
  pub to : r.range.end ≤ end

tiles_le : (at end : ℕ) (rs : List Region) → Tiles at end rs → at ≤ end
tiles_le at end [] t = omega (arith, t)
tiles_le at end (r ∷ rs) t = omega (arith, t.1, t.2, t.3, tiles_le r.range.end end rs t.4)

pub lies : (at end : ℕ) (rs : List Region) (i : ℕ) (r : Region) → Tiles at end rs → slice_get rs i ≡ Some r → Lies at end r
lies at end [] i r t e = absurd (cc e)
lies at end (x ∷ rs) zero r t e =
    let is : x ≡ r = cc e in
    subst (Lies at end) is (record { from = omega (arith, t.0); begins = omega (arith, t.0, t.1); order = t.2; inside = t.3; to = tiles_le x.range.end end rs t.4 })
lies at end (x ∷ rs) (suc i) r t e =
    let l = lies x.range.end end rs i r t.4 e in
    record { from = omega (arith, t.1, t.2, t.3, l.from); begins = l.begins; order = l.order; inside = l.inside; to = l.to }

-- a place is in one region
pub one_place : (at end : ℕ) (rs : List Region) (i j : ℕ) (r q : Region) (place : ℕ) → Tiles at end rs → slice_get rs i ≡ Some r → slice_get rs j ≡ Some q
    → r.range.start ≤ place → place < r.range.end → q.range.start ≤ place → place < q.range.end → r ≡ q
one_place at end [] i j r q place t d e a b c f = absurd (cc d)
one_place at end (x ∷ rs) zero zero r q place t d e a b c f = let is : x ≡ r = cc d in let same : x ≡ q = cc e in sym is ∙ same
one_place at end (x ∷ rs) zero (suc j) r q place t d e a b c f =
    let is : x ≡ r = cc d in
    let l = lies x.range.end end rs j q t.4 e in
    let before : place < x.range.end = subst (λ (y : Region). place < y.range.end) (sym is) b in
    absurd (omega (arith, before, l.from, c))
one_place at end (x ∷ rs) (suc i) zero r q place t d e a b c f =
    let is : x ≡ q = cc e in
    let l = lies x.range.end end rs i r t.4 d in
    let before : place < x.range.end = subst (λ (y : Region). place < y.range.end) (sym is) f in
    absurd (omega (arith, before, l.from, a))
one_place at end (x ∷ rs) (suc i) (suc j) r q place t d e a b c f = one_place x.range.end end rs i j r q place t.4 d e a b c f

-- a main region among the regions
pub record MainAt (rs : List Region) (r : Region) : Type 0 where
  pub at : ℕ
  pub is : slice_get rs at ≡ Some r
  pub main : is_main r.kind ≡ true

later : (x : Region) (rs : List Region) (r : Region) → MainAt rs r → MainAt (x ∷ rs) r
later x rs r m = record { at = suc m.at; is = m.is; main = m.main }

pub main_at : (rs : List Region) (k : ℕ) (r : Region) → slice_get (mains rs) k ≡ Some r → MainAt rs r
main_at [] k r e = absurd (cc e)
main_at (x ∷ rs) k r e = by_kind (λ i. main_at rs i r) (is_main x.kind) refl k e
  where
    by_kind : ((i : ℕ) → slice_get (mains rs) i ≡ Some r → MainAt rs r) → (b : Bool) → is_main x.kind ≡ b → (k : ℕ) → slice_get (cond b (x ∷ mains rs) (mains rs)) k ≡ Some r → MainAt (x ∷ rs) r
    by_kind rest true main zero e = let is : x ≡ r = cc e in record { at = 0; is = ap Some is; main = ap (λ (y : Region). is_main y.kind) (sym is) ∙ main }
    by_kind rest true main (suc k) e = later x rs r (rest k e)
    by_kind rest false main k e = later x rs r (rest k e)
