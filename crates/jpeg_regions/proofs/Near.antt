-- What is wanted of a file lies near the beginnings of its regions.
use Rattle.std.proofs.Common.{◌≡◌, inl, inr, ℕ, ◌+◌, ◌-◌, ◌*◌, ◌<◌, ◌≤◌, min, List, [], ◌∷◌, ◌++◌, length, drop, refl, sym, ap, subst, ◌∙◌, arith, append_assoc, Some, get_or}
use Rattle.std.specs.Prelude.{flat_map, slice_get}
use Rattle.std.specs.List.{AllByRecursion}
use Rattle.std.proofs.lemmas.List.{length-append, append-nil}
use Rattle.std.proofs.lemmas.Bool.Decides.{nat_tests}
use Rattle.std.proofs.lemmas.List.Elements.{All-append, All-nil}
use Rattle.xmp_base.specs.Device.{DeskState, Moved, Told, bytes_of}
use Rattle.xmp_base.specs.Windows.{ReadInside}
use Rattle.jpeg_regions.specs.declared.marker.Class.{Class}
use Rattle.jpeg_regions.specs.declared.marker.Class.TheVariants.{Fill, Refused, Single, Last, Sized}
use Rattle.jpeg_regions.specs.declared.reading.Found.{Found}
use Rattle.jpeg_regions.specs.declared.reading.Wants.{Wants}
use Rattle.jpeg_regions.specs.declared.reading.Wants.TheVariants.{Start, Marker, Length, Payload}
use Rattle.jpeg_regions.specs.Markers.{class_of}
use Rattle.jpeg_regions.specs.Kinds.{front_len}
use Rattle.jpeg_regions.specs.Wanted.{count_of}
use Rattle.jpeg_regions.specs.Jpeg.{Segment, Region, text, region, region_by, placed, IsInner, IsTail, HasLength, Cuts}
use Rattle.jpeg_regions.specs.Reads.{Reads}
use Rattle.jpeg_regions.specs.Cutting.{Underway}
use Rattle.jpeg_regions.specs.FromDesk.{near_end, IsNear, CutCalls}
use Rattle.xmp_base.proofs.Calls.{same_trans, counts_trans}
use Rattle.jpeg_regions.proofs.Found.{length-text}
use Rattle.jpeg_regions.proofs.Unique.{IsSegment, run_unique, run_below, not_fill, sized_not_fill, marker_ends, text-append, begins_list}
use Rattle.jpeg_regions.proofs.Faults.{sized_body}

start_by : (c : Class) (at : ℕ) (s : Segment) → (region_by c at s).range.start ≡ at
start_by Fill at s = refl
start_by Refused at s = refl
start_by Single at s = refl
start_by Last at s = refl
start_by Sized at s = refl

-- a region reaches after its marker
head_by : (c : Class) (at : ℕ) (s : Segment) → (c ≡ Sized → HasLength s.body) → at + s.fill + 1 ≤ near_end (region_by c at s)
head_by Fill at s h = omega arith
head_by Refused at s h = omega arith
head_by Single at s h = omega arith
head_by Last at s h = omega arith
head_by Sized at s h = omega (arith, length-text s)

near_head : (at : ℕ) (s : Segment) → IsSegment s → at + s.fill + 1 ≤ near_end (region at s)
near_head at s i = head_by (class_of s.marker) at s (sized_body s i)

-- a segment with a length reaches 75 bytes into its payload
near_payload : (at : ℕ) (s : Segment) → class_of s.marker ≡ Sized → (n : ℕ) → length s.body ≡ n + 2 → at + s.fill + 3 + min 75 n ≤ near_end (region at s)
near_payload at s is n full =
    subst (λ (c : Class). at + s.fill + 3 + min 75 n ≤ near_end (region_by c at s)) (sym is) (omega (arith, length-text s, full))

longer : (body : List ℕ) → HasLength body → (n : ℕ) × (length body ≡ n + 2)
longer [] h = absurd h
longer (c ∷ []) h = absurd h
longer (c ∷ d ∷ p) h = (length p, omega arith)

-- a payload that is known by its length
known_len : (body rest more : List ℕ) (high low n : ℕ) → HasLength body → 256 * high + low ≡ n + 2 → high ∷ low ∷ rest ≡ body ++ more → length body ≡ n + 2
known_len [] rest more high low n h e k = absurd h
known_len (c ∷ []) rest more high low n h e k = absurd h
known_len (c ∷ d ∷ p) rest more high low n h e k =
    let a : high ≡ c = cc in
    let b : low ≡ d = cc in
    omega arith

front_len-le : (m : ℕ) → front_len m ≤ 75
front_len-le m = grind (arith, nat_tests)

placed_at : (at : ℕ) (ss : List Segment) (x : Segment) (more : List Segment)
    → slice_get (placed at (ss ++ x ∷ more)) (length ss) ≡ Some (region (at + length (flat_map text ss)) x)
placed_at at [] x more = ap (λ (k : ℕ). Some (region k x)) (omega arith)
placed_at at (s ∷ ss) x more = placed_at (at + length (text s)) ss x more
    ∙ ap (λ (k : ℕ). Some (region k x)) (omega (arith, length-append (text s) (flat_map text ss)))

-- the first segment of what is left
first_left : (mid : List Segment) (tail : Segment) → AllByRecursion IsInner mid → IsTail tail
    → (x : Segment) × (more : List Segment) × ((mid ++ tail ∷ []) ≡ (x ∷ more)) × IsSegment x
first_left [] tail a b = (tail, [], refl, inr b)
first_left (m ∷ mid) tail a b = (m, mid ++ tail ∷ [], refl, inl a.0)

all_after : (ss mid : List Segment) → AllByRecursion IsInner (ss ++ mid) → AllByRecursion IsInner mid
all_after [] mid h = h
all_after (s ∷ ss) mid h = all_after ss mid h.1

-- What is wanted is in the region's beginning, whatever was wanted before.
within_region : (file : List ℕ) (start at : ℕ) (wants : Wants) (x : Segment) (more : List ℕ) → Reads file start at wants → IsSegment x
    → drop start file ≡ text x ++ more → at + count_of wants ≤ near_end (region start x)
within_region file start at Start x more a i e =
    let h = near_head start x i in
    let f = filled x i in omega (arith, a)
  where
    filled : (s : Segment) → IsSegment s → 0 < s.fill
    filled s (inl i) = i.filled
    filled s (inr t) = t.filled
within_region file start at Marker x more a i e =
    let h = near_head start x i in
    let below : a.fill ≤ x.fill = run_below a.fill x.fill x.marker (drop at file) (x.body ++ more) (marker_ends x i) (sym a.bytes ∙ e ∙ text-append x more) in
    omega (arith, a.place)
within_region file start at (Length marker) x more a i e =
    let r = run_unique a.fill x.fill marker x.marker (drop at file) (x.body ++ more) (not_fill marker Sized a.classed sized_not_fill) (marker_ends x i) (sym a.bytes ∙ e ∙ text-append x more) in
    let is : class_of x.marker ≡ Sized = ap class_of (sym r.1) ∙ a.classed in
    let n = longer x.body (sized_body x i is) in
    let near = near_payload start x is n.0 n.1 in
    omega (arith, a.place, r.0)
within_region file start at (Payload marker len) x more a i e =
    let r = run_unique a.fill x.fill marker x.marker (a.high ∷ a.low ∷ drop at file) (x.body ++ more) (not_fill marker Sized a.classed sized_not_fill) (marker_ends x i) (sym a.bytes ∙ e ∙ text-append x more) in
    let is : class_of x.marker ≡ Sized = ap class_of (sym r.1) ∙ a.classed in
    let full = known_len x.body (drop at file) more a.high a.low len (sized_body x i is) a.counted r.2 in
    let near = near_payload start x is len full in
    omega (arith, a.place, r.0, front_len-le marker)

pub near_wanted : (file : List ℕ) (found : List Found) (start at len : ℕ) (wants : Wants) (regions : List Region) (m : Moved)
    → Underway file found start → Reads file start at wants → Cuts file regions → at ≤ m.1 → m.1 + m.2 ≤ at + min (count_of wants) (len - at)
    → start ≤ at → IsNear regions m
near_wanted file found start at len wants regions m u a b low high order =
    let e : flat_map text u.segments ++ drop start file ≡ flat_map text (b.segments ++ b.tail ∷ []) = (let j = sym u.bytes ∙ b.bytes in cc) in
    let r = begins_list u.segments b.segments b.tail (drop start file) u.inner b.inner b.last e in
    let f = first_left r.0 b.tail (all_after u.segments r.0 (subst (AllByRecursion IsInner) r.1 b.inner)) b.last in
    let x = f.0 in
    let here : drop start file ≡ text x ++ flat_map text f.1 = r.2 ∙ ap (flat_map text) f.2 in
    let list : regions ≡ placed 2 (u.segments ++ x ∷ f.1) =
    b.listed ∙ ap (placed 2) (ap (λ (ss : List Segment). ss ++ b.tail ∷ []) r.1 ∙ append_assoc u.segments r.0 (b.tail ∷ []) ∙ ap (λ (ss : List Segment). u.segments ++ ss) f.2) in
    let near : at + count_of wants ≤ near_end (region start x) = within_region file start at wants x (flat_map text f.1) a f.3 here in (
      length u.segments,
      region start x,
      ap (λ rs. slice_get rs (length u.segments)) list ∙ placed_at 2 u.segments x f.1 ∙ ap (λ (k : ℕ). Some (region k x)) (sym u.place),
      subst (λ (k : ℕ). k ≤ m.1) (sym (start_by (class_of x.marker) start x)) (omega arith),
      omega arith,
    )

pub calls_none : (s : DeskState) (name : List ℕ) → CutCalls s s name
calls_none s name = record {
  same = record { files = refl; wrote = refl };
  counts = record { faults = omega arith; misses = omega arith; plan = refl };
  reads = record { named = λ reads told. ([], told ∙ ap Some (sym (append-nil reads)), All-nil (λ (m : Moved). m.0 ≡ name), λ files ftold regions cuts. All-nil (IsNear regions)) };
}

pub calls_more : (s t u : DeskState) (name : List ℕ) (found : List Found) (start at len : ℕ) (wants : Wants) → CutCalls s t name
    → ReadInside t u name at (at + min (count_of wants) (len - at)) → start ≤ at
    → Told s.files (λ files. Underway (bytes_of files name) found start × Reads (bytes_of files name) start at wants) → CutCalls s u name
calls_more s t u name found start at len wants a b order so_far = record {
  same = same_trans s t u a.same b.same;
  counts = counts_trans s t u a.counts b.counts;
  reads = record {
    named = λ reads told.
        let m = a.reads.named reads told in
        let n = b.reads (reads ++ m.0) m.1 in (
          m.0 ++ n.0,
          n.1 ∙ ap Some (append_assoc reads m.0 n.0),
          All-append (λ (m : Moved). m.0 ≡ name) m.0 n.0 m.2 (λ k d h. (n.2 k d h).of_name),
          λ files ftold regions cuts. All-append (IsNear regions) m.0 n.0 (m.3 files ftold regions cuts)
              (λ k d h. near_wanted (bytes_of files name) found start at len wants regions (get_or n.0 k d) (so_far files ftold).0 (so_far files ftold).1 cuts (n.2 k d h).from_start (n.2 k d h).to_end order),
        );
  };
}
