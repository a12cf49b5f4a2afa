-- Where the new segments stand.
use Rattle.std.proofs.Common.{◌≡◌, ℕ, suc, ◌+◌, ◌-◌, ◌≤◌, ◌||◌, not, Bool, true, false, cond, Option, List, [], ◌∷◌, ◌++◌, length, take, drop, refl, sym, ap, ◌∙◌, arith, Some, None}
use Rattle.std.specs.Prelude.{slice_get}
use Rattle.std.specs.List.{prefix_len}
use Rattle.std.specs.Option.{option_map, is_some}
use Rattle.std.proofs.lemmas.List.{take-append-drop, take_all, length-drop}
use Rattle.std.proofs.lemmas.List.Elements.{filter-append}
use Rattle.std.proofs.lemmas.List.Sums.{prefix_len-le-length}
use Rattle.std.proofs.Math.Seq.{take-append_seam, drop-append_seam}
use Rattle.xmp_base.specs.declared.file_span.FileSpan.{FileSpan}
use Rattle.jpeg_regions.specs.declared.kind.RegionKind.{RegionKind}
use Rattle.jpeg_regions.specs.Jpeg.{Region, is_main, mains}
use Rattle.jpeg_relocation.specs.declared.roles.Role.{Role}
use Rattle.jpeg_relocation.specs.declared.roles.Role.TheVariants.{Kept, Main, Joined}
use Rattle.jpeg_relocation.specs.Relocation.{has_main, is_joined, is_kept, is_lead, kept, place, before, after}
use Rattle.jpeg_relocation.specs.Roles.{role, stops, goes_before}
use Rattle.jpeg_relocation.specs.Runs.{part}
use Rattle.jpeg_relocation.proofs.Elements.{Told, dropped}

-- a file has a main region where its list has one
pub main_some : (regions : List Region) → is_some (option_map (λ r. r.payload) (slice_get (mains regions) 0)) ≡ has_main regions
main_some [] = refl
main_some (r ∷ rs) = by (is_main r.kind) (main_some rs)
  where
    by : (b : Bool) → is_some (option_map (λ x. x.payload) (slice_get (mains rs) 0)) ≡ has_main rs
        → is_some (option_map (λ x. x.payload) (slice_get (cond b (r ∷ mains rs) (mains rs)) 0)) ≡ (b || has_main rs)
    by true h = refl
    by false h = h

not_not : (a b : Bool) → a ≡ not b → b ≡ not a
not_not true true h = absurd (cc h)
not_not true false h = refl
not_not false true h = refl
not_not false false h = absurd (cc h)

pub first_told : (regions : List Region) (payload : Option FileSpan) (first : Bool) → payload ≡ option_map (λ r. r.payload) (slice_get (mains regions) 0)
    → is_some payload ≡ not first → first ≡ not (has_main regions)
first_told regions payload first is none = not_not (has_main regions) first (sym (main_some regions) ∙ sym (ap is_some is) ∙ none)

-- One region more stands before the place, or the first that doesn't.

region_known : (joined : List FileSpan) (first : Bool) (o : Option Region) (x : Role) (k : RegionKind) → option_map (role joined) o ≡ Some x → option_map (λ r. r.kind) o ≡ Some k
    → Told (goes_before joined first) o (not (stops first x k))
region_known joined first None x k h e = absurd (cc h)
region_known joined first (Some r) x k h e =
    let is : role joined r ≡ x = cc h in
    let kind : r.kind ≡ k = cc e in
    record { element = r; is = refl; has = (λ i. not (stops first (is i) (kind i))) }

module _ (joined : List FileSpan) (first : Bool) (regions : List Region) (i : ℕ) (x : Role) (k : RegionKind) (h : option_map (role joined) (slice_get regions i) ≡ Some x)
    (e : option_map (λ r. r.kind) (slice_get regions i) ≡ Some k) where
  pub passes : stops first x k ≡ false → i + prefix_len (goes_before joined first) (drop i regions) ≡ i + 1 + prefix_len (goes_before joined first) (drop (i + 1) regions)
  passes s =
      let r = region_known joined first (slice_get regions i) x k h e in
      let go : goes_before joined first r.element ≡ true = r.has ∙ ap not s in
      let more : prefix_len (goes_before joined first) (drop i regions) ≡ 1 + prefix_len (goes_before joined first) (drop (i + 1) regions) =
      ap (prefix_len (goes_before joined first)) (dropped regions i r.element r.is) ∙ ap (λ (b : Bool). cond b (1 + prefix_len (goes_before joined first) (drop (i + 1) regions)) 0) go in
      omega (arith, more)

  pub halts : stops first x k ≡ true → i + prefix_len (goes_before joined first) (drop i regions) ≡ i
  halts s =
      let r = region_known joined first (slice_get regions i) x k h e in
      let go : goes_before joined first r.element ≡ false = r.has ∙ ap not s in
      let none : prefix_len (goes_before joined first) (drop i regions) ≡ 0 =
      ap (prefix_len (goes_before joined first)) (dropped regions i r.element r.is) ∙ ap (λ (b : Bool). cond b (1 + prefix_len (goes_before joined first) (drop (i + 1) regions)) 0) go in
      omega (arith, none)

-- The kept regions before the place are those of the regions before it.

split_kept : (joined : List FileSpan) (n : ℕ) (regions : List Region) → kept joined regions ≡ kept joined (take n regions) ++ kept joined (drop n regions)
split_kept joined n regions = ap (kept joined) (sym (take-append-drop n regions)) ∙ filter-append (is_kept joined) (take n regions) (drop n regions)

-- with a main region: all before it goes before the place
pub goes_main : (joined : List FileSpan) (r : Region) → goes_before joined false r ≡ not (is_main r.kind)
goes_main joined r = by (is_main r.kind) (is_joined joined r)
  where
    by : (a b : Bool) → not (stops false (cond a Main (cond b Joined Kept)) r.kind) ≡ not a
    by true b = refl
    by false true = refl
    by false false = refl

pub same_prefix : (p q : Region → Bool) → ((r : Region) → p r ≡ q r) → (rs : List Region) → prefix_len p rs ≡ prefix_len q rs
same_prefix p q h [] = refl
same_prefix p q h (r ∷ rs) = (λ i. cond (h r i) (1 + same_prefix p q h rs i) 0)

-- without one: the longest run of leading segments, joined portions aside
not_not_is : (b : Bool) → not (not b) ≡ b
not_not_is true = refl
not_not_is false = refl

goes_lead : (joined : List FileSpan) (r : Region) → is_main r.kind ≡ false → goes_before joined true r ≡ (not (is_kept joined r) || is_lead r.kind)
goes_lead joined r m =
    (λ i. not (stops true (cond (m i) Main (cond (is_joined joined r) Joined Kept)) r.kind))
    ∙ by (is_joined joined r)
    ∙ sym (λ i. not (not (m i || is_joined joined r)) || is_lead r.kind)
  where
    by : (b : Bool) → not (stops true (cond b Joined Kept) r.kind) ≡ (not (not (false || b)) || is_lead r.kind)
    by true = refl
    by false = not_not_is (is_lead r.kind)

module _ (joined : List FileSpan) (r : Region) (rs : List Region) where
  abbrev go : Region → Bool
  go = goes_before joined true

  abbrev lead : Region → Bool
  lead = λ q. is_lead q.kind

  on : go r ≡ true → take (prefix_len go (r ∷ rs)) (r ∷ rs) ≡ r ∷ take (prefix_len go rs) rs
  on g =
      let next : prefix_len go (r ∷ rs) ≡ suc (prefix_len go rs) = ap (λ (b : Bool). cond b (1 + prefix_len go rs) 0) g ∙ omega arith in
      ap (λ (n : ℕ). take n (r ∷ rs)) next

  off : go r ≡ false → take (prefix_len go (r ∷ rs)) (r ∷ rs) ≡ []
  off g = ap (λ (n : ℕ). take n (r ∷ rs)) (ap (λ (b : Bool). cond b (1 + prefix_len go rs) 0) g)

  lead_step : (b l : Bool) → is_kept joined r ≡ b → is_lead r.kind ≡ l → go r ≡ (not b || l) → prefix_len lead (kept joined rs) ≡ length (kept joined (take (prefix_len go rs) rs))
      → prefix_len lead (kept joined (r ∷ rs)) ≡ length (kept joined (take (prefix_len go (r ∷ rs)) (r ∷ rs)))
  lead_step false l k m g h =
      (λ i. prefix_len lead (cond (k i) (r ∷ kept joined rs) (kept joined rs)))
      ∙ h
      ∙ sym (ap (λ qs. length (kept joined qs)) (on g) ∙ (λ i. length (cond (k i) (r ∷ kept joined (take (prefix_len go rs) rs)) (kept joined (take (prefix_len go rs) rs)))))
  lead_step true true k m g h =
      let more : 1 + prefix_len lead (kept joined rs) ≡ suc (length (kept joined (take (prefix_len go rs) rs))) = omega (arith, h) in
      (λ i. prefix_len lead (cond (k i) (r ∷ kept joined rs) (kept joined rs)))
      ∙ (λ i. cond (m i) (1 + prefix_len lead (kept joined rs)) 0)
      ∙ more
      ∙ sym (ap (λ qs. length (kept joined qs)) (on g) ∙ (λ i. length (cond (k i) (r ∷ kept joined (take (prefix_len go rs) rs)) (kept joined (take (prefix_len go rs) rs)))))
  lead_step true false k m g h =
      (λ i. prefix_len lead (cond (k i) (r ∷ kept joined rs) (kept joined rs)))
      ∙ (λ i. cond (m i) (1 + prefix_len lead (kept joined rs)) 0)
      ∙ sym (ap (λ qs. length (kept joined qs)) (off g))

none_parts : (a b : Bool) → (a || b) ≡ false → (a ≡ false) × (b ≡ false)
none_parts true b h = absurd (cc h)
none_parts false b h = (refl, h)

lead_prefix : (joined : List FileSpan) (rs : List Region) → has_main rs ≡ false
    → prefix_len (λ r. is_lead r.kind) (kept joined rs) ≡ length (kept joined (take (prefix_len (goes_before joined true) rs) rs))
lead_prefix joined [] h = refl
lead_prefix joined (r ∷ rs) h =
    let parts = none_parts (is_main r.kind) (has_main rs) h in
    lead_step joined r rs (is_kept joined r) (is_lead r.kind) refl refl (goes_lead joined r parts.0) (lead_prefix joined rs parts.1)

abbrev pub goes_to : List FileSpan → List Region → ℕ
goes_to joined regions = prefix_len (goes_before joined (not (has_main regions))) regions

place_by : (joined : List FileSpan) (regions : List Region) (b : Bool) → has_main regions ≡ b
    → cond b (length (kept joined (take (prefix_len (λ r. not (is_main r.kind)) regions) regions))) (prefix_len (λ r. is_lead r.kind) (kept joined regions))
    ≡ length (kept joined (take (prefix_len (goes_before joined (not b)) regions) regions))
place_by joined regions true h =
    ap (λ (n : ℕ). length (kept joined (take n regions))) (sym (same_prefix (goes_before joined false) (λ r. not (is_main r.kind)) (goes_main joined) regions))
place_by joined regions false h = lead_prefix joined regions h

place_is : (joined : List FileSpan) (regions : List Region) → place joined regions ≡ length (kept joined (take (goes_to joined regions) regions))
place_is joined regions = place_by joined regions (has_main regions) refl

pub before_is : (joined : List FileSpan) (regions : List Region) → before joined regions ≡ kept joined (take (goes_to joined regions) regions)
before_is joined regions =
    (λ i. take (place_is joined regions i) (split_kept joined (goes_to joined regions) regions i))
    ∙ take-append_seam (kept joined (take (goes_to joined regions) regions)) (kept joined (drop (goes_to joined regions) regions))

pub after_is : (joined : List FileSpan) (regions : List Region) → after joined regions ≡ kept joined (drop (goes_to joined regions) regions)
after_is joined regions =
    (λ i. drop (place_is joined regions i) (split_kept joined (goes_to joined regions) regions i))
    ∙ drop-append_seam (kept joined (take (goes_to joined regions) regions)) (kept joined (drop (goes_to joined regions) regions))

pub front_part : (n : ℕ) (regions : List Region) → part regions 0 n ≡ take n regions
front_part n regions = let same : n - 0 ≡ n = omega arith in ap (λ (m : ℕ). take m regions) same

pub back_part : (n : ℕ) (regions : List Region) → n ≤ length regions → part regions n (length regions) ≡ drop n regions
back_part n regions h = take_all (length regions - n) (drop n regions) (omega (arith, length-drop n regions))

pub goes_within : (joined : List FileSpan) (regions : List Region) → goes_to joined regions ≤ length regions
goes_within joined regions = prefix_len-le-length (goes_before joined (not (has_main regions))) regions
