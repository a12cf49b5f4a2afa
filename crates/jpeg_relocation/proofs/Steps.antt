-- One region more.
use Rattle.std.proofs.Common.{◌≡◌, ◌≢◌, ℕ, ◌+◌, ◌-◌, ◌<◌, ◌≤◌, ◌==◌, ◌&&◌, ◌||◌, not, eq-eqb, ne_eqb, Bool, true, false, cond, Option, None, List, [], ◌∷◌, ◌++◌, length, take, drop, refl, sym, ap, ◌∙◌, arith, Some}
use Rattle.std.specs.Prelude.{slice_get}
use Rattle.std.specs.Option.{option_map}
use Rattle.std.specs.List.{list_any}
use Rattle.std.proofs.lemmas.List.{drop-drop, append-nil}
use Rattle.std.proofs.lemmas.List.Elements.{filter-append}
use Rattle.xmp_base.specs.declared.file_span.FileSpan.{FileSpan}
use Rattle.jpeg_regions.specs.declared.kind.RegionKind.{RegionKind}
use Rattle.jpeg_regions.specs.declared.kind.RegionKind.TheVariants as kinds
use Rattle.jpeg_regions.specs.Jpeg.{Region, span, is_main, is_extension}
use Rattle.jpeg_relocation.specs.declared.roles.Role.{Role}
use Rattle.jpeg_relocation.specs.declared.roles.Role.TheVariants.{Kept, Main, Joined}
use Rattle.jpeg_relocation.specs.Relocation.{same_span, is_joined, is_kept, kept}
use Rattle.jpeg_relocation.specs.Roles.{role, is_at, IsNext}
use Rattle.jpeg_relocation.specs.Runs.{in_front, runs, with_last, part}
use Rattle.jpeg_relocation.proofs.Elements.{dropped, taken, there, told}
use Rattle.jpeg_relocation.proofs.Merged.{same_is, same_self, next_joined, next_other, within, found, not_found}

-- What a role says.

kept_by : (a b : Bool) → cond a Main (cond b Joined Kept) ≡ Kept → (a ≡ false) × (b ≡ false)
kept_by true b h = absurd (cc h)
kept_by false true h = absurd (cc h)
kept_by false false h = (refl, refl)

joined_by : (a b : Bool) → cond a Main (cond b Joined Kept) ≡ Joined → b ≡ true
joined_by true b h = absurd (cc h)
joined_by false true h = refl
joined_by false false h = absurd (cc h)

main_by : (a b : Bool) → cond a Main (cond b Joined Kept) ≡ Main → a ≡ true
main_by true b h = refl
main_by false true h = absurd (cc h)
main_by false false h = absurd (cc h)

pub role_kept : (joined : List FileSpan) (r : Region) → role joined r ≡ Kept → (is_main r.kind ≡ false) × (is_joined joined r ≡ false)
role_kept joined r h = kept_by (is_main r.kind) (is_joined joined r) h

pub role_joined : (joined : List FileSpan) (r : Region) → role joined r ≡ Joined → is_joined joined r ≡ true
role_joined joined r h = joined_by (is_main r.kind) (is_joined joined r) h

-- a main region is no portion
not_joined : (k : RegionKind) (b : Bool) → is_main k ≡ true → (is_extension k && b) ≡ false
not_joined kinds.Main b h = refl
not_joined k b h = absurd (cc h)

pub role_main : (joined : List FileSpan) (r : Region) → role joined r ≡ Main → (is_main r.kind ≡ true) × (is_joined joined r ≡ false)
role_main joined r h =
    let main = main_by (is_main r.kind) (is_joined joined r) h in
    (main, not_joined r.kind (list_any (same_span r.payload) joined) main)

-- The role of a region that is told.

role_portion : (joined : List FileSpan) (r : Region) (b : Bool) → r.kind ≡ kinds.Portion → is_joined joined r ≡ b → role joined r ≡ cond b Joined Kept
role_portion joined r b k h = (λ i. cond (is_main (k i)) Main (cond (h i) Joined Kept))

pub portion_kept : (joined : List FileSpan) (regions : List Region) (i portion : ℕ) (payload : FileSpan) → IsNext joined regions i portion
    → option_map (λ r. r.kind) (slice_get regions i) ≡ Some kinds.Portion → option_map (λ r. r.payload) (slice_get regions i) ≡ Some payload
    → is_at (slice_get joined portion) payload ≡ false → option_map (role joined) (slice_get regions i) ≡ Some Kept
portion_kept joined regions i portion payload n kind at other =
    let k = told (λ (r : Region). r.kind) (slice_get regions i) kinds.Portion kind in
    let same : Some k.element.payload ≡ Some payload = sym (ap (option_map (λ (r : Region). r.payload)) k.is) ∙ at in
    let none = not_found joined regions i portion k.element n k.is
    (λ e. let no : false ≡ true = sym other ∙ ap (λ o. is_at o payload) (e ∙ same) ∙ same_self payload in cc) in
    ap (option_map (role joined)) k.is ∙ ap Some (role_portion joined k.element false k.has none)

at_is : (o : Option FileSpan) (payload : FileSpan) → is_at o payload ≡ true → o ≡ Some payload
at_is None payload h = absurd (cc h)
at_is (Some next) payload h = ap Some (same_is next payload h)

portion_by : (k : RegionKind) → k ≡ kinds.Portion → is_extension k ≡ true
portion_by k e = ap is_extension e

pub portion_joined : (joined : List FileSpan) (regions : List Region) (i portion : ℕ) (payload : FileSpan) → IsNext joined regions i portion
    → option_map (λ r. r.kind) (slice_get regions i) ≡ Some kinds.Portion → option_map (λ r. r.payload) (slice_get regions i) ≡ Some payload
    → is_at (slice_get joined portion) payload ≡ true → option_map (role joined) (slice_get regions i) ≡ Some Joined
portion_joined joined regions i portion payload n kind at is =
    let k = told (λ (r : Region). r.kind) (slice_get regions i) kinds.Portion kind in
    let same : Some k.element.payload ≡ Some payload = sym (ap (option_map (λ (r : Region). r.payload)) k.is) ∙ at in
    let here = found joined regions i portion k.element n k.is (portion_by k.element.kind k.has) (at_is (slice_get joined portion) payload is ∙ sym same) in
    ap (option_map (role joined)) k.is ∙ ap Some (role_portion joined k.element true k.has here)

-- The next place of the merge.

pub kept_next : (joined : List FileSpan) (regions : List Region) (i portion : ℕ) → IsNext joined regions i portion → option_map (role joined) (slice_get regions i) ≡ Some Kept
    → IsNext joined regions (i + 1) portion
kept_next joined regions i portion n h =
    let r = told (role joined) (slice_get regions i) Kept h in
    next_other joined regions i portion r.element n r.is (role_kept joined r.element r.has).1

pub main_next : (joined : List FileSpan) (regions : List Region) (i portion : ℕ) → IsNext joined regions i portion → option_map (role joined) (slice_get regions i) ≡ Some Main
    → IsNext joined regions (i + 1) portion
main_next joined regions i portion n h =
    let r = told (role joined) (slice_get regions i) Main h in
    next_other joined regions i portion r.element n r.is (role_main joined r.element r.has).1

pub joined_next : (joined : List FileSpan) (regions : List Region) (i portion : ℕ) → IsNext joined regions i portion → option_map (role joined) (slice_get regions i) ≡ Some Joined
    → IsNext joined regions (i + 1) (portion + 1)
joined_next joined regions i portion n h =
    let r = told (role joined) (slice_get regions i) Joined h in
    next_joined joined regions i portion r.element n r.is (role_joined joined r.element r.has)

pub joined_within : (joined : List FileSpan) (regions : List Region) (i portion : ℕ) → IsNext joined regions i portion → option_map (role joined) (slice_get regions i) ≡ Some Joined
    → portion < length joined
joined_within joined regions i portion n h =
    let r = told (role joined) (slice_get regions i) Joined h in
    within joined regions i portion r.element n r.is (role_joined joined r.element r.has)

pub other_next : (joined : List FileSpan) (regions : List Region) (i portion : ℕ) (x : Role) → IsNext joined regions i portion → option_map (role joined) (slice_get regions i) ≡ Some x
    → (x ≡ Joined → ⊥) → IsNext joined regions (i + 1) portion
other_next joined regions i portion Kept n h other = kept_next joined regions i portion n h
other_next joined regions i portion Main n h other = main_next joined regions i portion n h
other_next joined regions i portion Joined n h other = absurd (other refl)

-- What is kept of one region more.

pub keeps : (joined : List FileSpan) (xs : List Region) (r : Region) → role joined r ≡ Kept → kept joined (xs ++ r ∷ []) ≡ kept joined xs ++ r ∷ []
keeps joined xs r h =
    let k = role_kept joined r h in
    filter-append (is_kept joined) xs (r ∷ []) ∙ (λ i. kept joined xs ++ cond (not (k.0 i || k.1 i)) (r ∷ []) [])

pub drops_main : (joined : List FileSpan) (xs : List Region) (r : Region) → role joined r ≡ Main → kept joined (xs ++ r ∷ []) ≡ kept joined xs
drops_main joined xs r h =
    let k = role_main joined r h in
    filter-append (is_kept joined) xs (r ∷ []) ∙ (λ i. kept joined xs ++ cond (not (k.0 i || is_joined joined r)) (r ∷ []) []) ∙ append-nil (kept joined xs)

or_true : (b : Bool) → (b || true) ≡ true
or_true true = refl
or_true false = refl

pub drops_joined : (joined : List FileSpan) (xs : List Region) (r : Region) → role joined r ≡ Joined → kept joined (xs ++ r ∷ []) ≡ kept joined xs
drops_joined joined xs r h =
    let k = role_joined joined r h in
    filter-append (is_kept joined) xs (r ∷ [])
    ∙ (λ i. kept joined xs ++ cond (not (is_main r.kind || k i)) (r ∷ []) [])
    ∙ (λ i. kept joined xs ++ cond (not (or_true (is_main r.kind) i)) (r ∷ []) [])
    ∙ append-nil (kept joined xs)

-- Runs.

inside_cond : {A B : Type 0} (f : A → B) (b : Bool) (x y : A) → f (cond b x y) ≡ cond b (f x) (f y)
inside_cond f true x y = refl
inside_cond f false x y = refl

one_front : (a r s : FileSpan) (x y : Bool) → cond x (cond y (span a.start r.end ∷ []) (span a.start s.end ∷ r ∷ [])) (a ∷ cond y (span s.start r.end ∷ []) (s ∷ r ∷ []))
    ≡ cond y (cond x (span a.start r.end ∷ []) (a ∷ span s.start r.end ∷ [])) (cond x (span a.start s.end ∷ r ∷ []) (a ∷ s ∷ r ∷ []))
one_front a r s true true = refl
one_front a r s true false = refl
one_front a r s false true = refl
one_front a r s false false = refl

last-front : (a r : FileSpan) (xs : List FileSpan) → with_last (in_front a xs) r ≡ in_front a (with_last xs r)
last-front a r [] = refl
last-front a r (s ∷ []) =
    inside_cond (λ xs. with_last xs r) (a.end == s.start) (span a.start s.end ∷ []) (a ∷ s ∷ [])
    ∙ one_front a r s (a.end == s.start) (s.end == r.start)
    ∙ sym (inside_cond (in_front a) (s.end == r.start) (span s.start r.end ∷ []) (s ∷ r ∷ []))
last-front a r (s ∷ t ∷ ss) = inside_cond (λ xs. with_last xs r) (a.end == s.start) (span a.start s.end ∷ t ∷ ss) (a ∷ s ∷ t ∷ ss)

pub last_met : (xs : List FileSpan) (s r : FileSpan) → s.end ≡ r.start → with_last (xs ++ s ∷ []) r ≡ xs ++ span s.start r.end ∷ []
last_met [] s r h = ap (λ (b : Bool). cond b (span s.start r.end ∷ []) (s ∷ r ∷ [])) (eq-eqb s.end r.start h)
last_met (x ∷ []) s r h = ap (λ l. x ∷ l) (last_met [] s r h)
last_met (x ∷ y ∷ xs) s r h = ap (λ l. x ∷ l) (last_met (y ∷ xs) s r h)

pub last_apart : (xs : List FileSpan) (s r : FileSpan) → s.end ≢ r.start → with_last (xs ++ s ∷ []) r ≡ xs ++ (s ∷ r ∷ [])
last_apart [] s r h = ap (λ (b : Bool). cond b (span s.start r.end ∷ []) (s ∷ r ∷ [])) (ne_eqb s.end r.start h)
last_apart (x ∷ []) s r h = ap (λ l. x ∷ l) (last_apart [] s r h)
last_apart (x ∷ y ∷ xs) s r h = ap (λ l. x ∷ l) (last_apart (y ∷ xs) s r h)

pub runs-last : (xs : List Region) (r : Region) → runs (xs ++ r ∷ []) ≡ with_last (runs xs) r.range
runs-last [] r = refl
runs-last (x ∷ xs) r = ap (in_front x.range) (runs-last xs r) ∙ sym (last-front x.range r.range (runs xs))

pub part_none : (joined : List FileSpan) (regions : List Region) (n : ℕ) → runs (kept joined (part regions n n)) ≡ []
part_none joined regions n = let none : n - n ≡ 0 = omega arith in ap (λ (m : ℕ). runs (kept joined (take m (drop n regions)))) none

-- a part that is one region longer
pub part_more : (regions : List Region) (from i : ℕ) (r : Region) → from ≤ i → slice_get regions i ≡ Some r → part regions from (i + 1) ≡ part regions from i ++ r ∷ []
part_more regions from i r order at =
    let whole : from + (i - from) ≡ i = omega arith in
    let here : drop (i - from) (drop from regions) ≡ r ∷ drop (i + 1) regions = drop-drop (i - from) from regions ∙ ap (λ (n : ℕ). drop n regions) whole ∙ dropped regions i r at in
    let longer : i + 1 - from ≡ i - from + 1 = omega arith in
    ap (λ (n : ℕ). take n (drop from regions)) longer ∙ taken (drop from regions) (i - from) r (there (drop from regions) (i - from) r (drop (i + 1) regions) here)

-- a run that is built from a part
module _ (joined : List FileSpan) (regions : List Region) (from i : ℕ) (order : from ≤ i) (spans : List FileSpan) (so_far : spans ≡ runs (kept joined (part regions from i))) where
  pub runs_kept : (range : FileSpan) → option_map (role joined) (slice_get regions i) ≡ Some Kept → option_map (λ r. r.range) (slice_get regions i) ≡ Some range
      → with_last spans range ≡ runs (kept joined (part regions from (i + 1)))
  runs_kept range h at =
      let r = told (role joined) (slice_get regions i) Kept h in
      let there_is : Some r.element.range ≡ Some range = sym (ap (option_map (λ (q : Region). q.range)) r.is) ∙ at in
      let same : r.element.range ≡ range = cc there_is in
      (λ j. with_last (so_far j) (sym same j))
      ∙ sym (runs-last (kept joined (part regions from i)) r.element)
      ∙ sym (ap runs (keeps joined (part regions from i) r.element r.has))
      ∙ sym (ap (λ rs. runs (kept joined rs)) (part_more regions from i r.element order r.is))

  pub runs_main : option_map (role joined) (slice_get regions i) ≡ Some Main → spans ≡ runs (kept joined (part regions from (i + 1)))
  runs_main h =
      let r = told (role joined) (slice_get regions i) Main h in
      so_far ∙ sym (ap runs (drops_main joined (part regions from i) r.element r.has)) ∙ sym (ap (λ rs. runs (kept joined rs)) (part_more regions from i r.element order r.is))

  pub runs_joined : option_map (role joined) (slice_get regions i) ≡ Some Joined → spans ≡ runs (kept joined (part regions from (i + 1)))
  runs_joined h =
      let r = told (role joined) (slice_get regions i) Joined h in
      so_far ∙ sym (ap runs (drops_joined joined (part regions from i) r.element r.has)) ∙ sym (ap (λ rs. runs (kept joined rs)) (part_more regions from i r.element order r.is))
