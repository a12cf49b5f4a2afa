-- The first index of a multi-picture file, and the lengths of the regions after it.
use Rattle.std.proofs.Common.{◌≡◌, ℕ, zero, suc, ◌+◌, ◌-◌, ◌<◌, ◌≤◌, ◌||◌, ◌&&◌, not, nat_lt, Bool, true, false, cond, Option, List, [], ◌∷◌, ◌++◌, length, take, drop, refl, sym, ap, ◌∙◌, subst, arith, Some, None}
use Rattle.std.specs.Prelude.{slice_get, find, sum_by}
use Rattle.std.specs.List.{list_any, position_from}
use Rattle.std.specs.Option.{option_map}
use Rattle.jpeg_regions.proofs.Places.{lies}
use Rattle.std.proofs.lemmas.List.Folds.{list_any-append}
use Rattle.std.proofs.lemmas.Bool.{lt-ltb, le-ltb}
use Rattle.std.proofs.lemmas.List.Sums.{sum_by_push, sum_by-cons, sum_by-take-le}
use Rattle.xmp_base.specs.declared.file_span.FileSpan.{FileSpan}
use Rattle.jpeg_regions.specs.declared.kind.RegionKind.{RegionKind}
use Rattle.jpeg_regions.specs.declared.kind.RegionKind.TheVariants as kinds
use Rattle.jpeg_regions.specs.Jpeg.{Region, is_main, is_extension}
use Rattle.jpeg_regions.specs.Cutting.{Tiles}
use Rattle.jpeg_relocation.specs.Relocation.{same_span, is_kept, kept, before}
use Rattle.jpeg_relocation.specs.Pictures.{is_index, size_of, after_index, pictures_len, first_index, index_at, index_of}
use Rattle.jpeg_relocation.proofs.Places.{goes_to, before_is}
use Rattle.jpeg_relocation.specs.declared.roles.Role.TheVariants.{Kept, Main, Joined}
use Rattle.jpeg_relocation.specs.Roles.{role}
use Rattle.jpeg_relocation.proofs.Steps.{keeps, drops_main, drops_joined}
use Rattle.jpeg_relocation.proofs.Elements.{Told, dropped, taken, told}

abbrev pub any_index : List Region → Bool
any_index rs = list_any (λ r. is_index r.kind) rs

module _ (regions : List Region) (i : ℕ) (k : RegionKind) (h : option_map (λ r. r.kind) (slice_get regions i) ≡ Some k) where
  pub index_here : is_index k ≡ true → position_from (λ r. is_index r.kind) i (drop i regions) ≡ Some i
  index_here is =
      let r = told (λ (r : Region). r.kind) (slice_get regions i) k h in
      ap (position_from (λ q. is_index q.kind) i) (dropped regions i r.element r.is)
      ∙ ap (λ (b : Bool). cond b (Some i) (position_from (λ q. is_index q.kind) (i + 1) (drop (i + 1) regions))) (ap is_index r.has ∙ is)

  pub index_later : is_index k ≡ false → position_from (λ r. is_index r.kind) i (drop i regions) ≡ position_from (λ r. is_index r.kind) (i + 1) (drop (i + 1) regions)
  index_later is =
      let r = told (λ (r : Region). r.kind) (slice_get regions i) k h in
      ap (position_from (λ q. is_index q.kind) i) (dropped regions i r.element r.is)
      ∙ ap (λ (b : Bool). cond b (Some i) (position_from (λ q. is_index q.kind) (i + 1) (drop (i + 1) regions))) (ap is_index r.has ∙ is)

-- One region more.

pub sum_push : (xs : List Region) (r : Region) → pictures_len (xs ++ r ∷ []) ≡ cond (any_index xs) (pictures_len xs + size_of r) 0
sum_push [] r = by (is_index r.kind)
  where
    by : (b : Bool) → sum_by size_of (cond b [] []) ≡ 0
    by true = refl
    by false = refl
sum_push (x ∷ xs) r = by (is_index x.kind) (sum_push xs r)
  where
    by : (b : Bool) → pictures_len (xs ++ r ∷ []) ≡ cond (any_index xs) (pictures_len xs + size_of r) 0
        → sum_by size_of (cond b (xs ++ r ∷ []) (after_index (xs ++ r ∷ []))) ≡ cond (b || any_index xs) (sum_by size_of (cond b xs (after_index xs)) + size_of r) 0
    by true h = sum_by_push size_of xs r
    by false h = h

pub sum_none : (xs : List Region) → any_index xs ≡ false → pictures_len xs ≡ 0
sum_none [] h = refl
sum_none (x ∷ xs) h = by (is_index x.kind) (sum_none xs) h
  where
    by : (b : Bool) → (any_index xs ≡ false → pictures_len xs ≡ 0) → (b || any_index xs) ≡ false → sum_by size_of (cond b xs (after_index xs)) ≡ 0
    by true rest h = absurd (cc h)
    by false rest h = rest h

pub sum_most : (xs : List Region) → pictures_len xs ≤ sum_by size_of xs
sum_most [] = omega arith
sum_most (x ∷ xs) = by (is_index x.kind) (sum_most xs)
  where
    by : (b : Bool) → pictures_len xs ≤ sum_by size_of xs → sum_by size_of (cond b xs (after_index xs)) ≤ sum_by size_of (x ∷ xs)
    by true h = omega (arith, sum_by-cons size_of x xs)
    by false h = omega (arith, h, sum_by-cons size_of x xs)

pub kept_most : (joined : List FileSpan) (xs : List Region) → sum_by size_of (kept joined xs) ≤ sum_by size_of xs
kept_most joined [] = omega arith
kept_most joined (x ∷ xs) = by (is_kept joined x) (kept_most joined xs)
  where
    by : (b : Bool) → sum_by size_of (kept joined xs) ≤ sum_by size_of xs → sum_by size_of (cond b (x ∷ kept joined xs) (kept joined xs)) ≤ sum_by size_of (x ∷ xs)
    by true h = omega (arith, h, sum_by-cons size_of x xs, sum_by-cons size_of x (kept joined xs))
    by false h = omega (arith, h, sum_by-cons size_of x xs)

-- regions that tile a range have its length
pub tiles_sum : (at end : ℕ) (rs : List Region) → Tiles at end rs → at + sum_by size_of rs ≡ end
tiles_sum at end [] t = omega (arith, t)
tiles_sum at end (r ∷ rs) t = omega (arith, t.0, t.1, t.2, t.3, tiles_sum r.range.end end rs t.4, sum_by-cons size_of r rs)

-- The first index.

at_least : (k i : ℕ) (rs : List Region) → position_from (λ r. is_index r.kind) k rs ≡ Some i → k ≤ i
at_least k i [] h = absurd (cc h)
at_least k i (r ∷ rs) h = by (is_index r.kind) (at_least (k + 1) i rs) h
  where
    by : (b : Bool) → (position_from (λ q. is_index q.kind) (k + 1) rs ≡ Some i → k + 1 ≤ i) → cond b (Some k) (position_from (λ q. is_index q.kind) (k + 1) rs) ≡ Some i → k ≤ i
    by true rest h = let same : k ≡ i = cc h in omega (arith, same)
    by false rest h = omega (arith, rest h)

-- it stands among the first regions exactly where its number is less than theirs
pushed_at : (k i n : ℕ) (rs : List Region) → position_from (λ r. is_index r.kind) k rs ≡ Some i → any_index (take n rs) ≡ nat_lt i (k + n)
pushed_at k i n [] h = absurd (cc h)
pushed_at k i zero (r ∷ rs) h = let from : k ≤ i = at_least k i (r ∷ rs) h in let none : k + 0 ≤ i = omega arith in sym (le-ltb i (k + 0) none)
pushed_at k i (suc n) (r ∷ rs) h = by (is_index r.kind) (pushed_at (k + 1) i n rs) h
  where
    by : (b : Bool) → (position_from (λ q. is_index q.kind) (k + 1) rs ≡ Some i → any_index (take n rs) ≡ nat_lt i (k + 1 + n))
        → cond b (Some k) (position_from (λ q. is_index q.kind) (k + 1) rs) ≡ Some i → (b || any_index (take n rs)) ≡ nat_lt i (k + suc n)
    by true rest h = let same : k ≡ i = cc h in let below : i < k + suc n = omega (arith, same) in sym (lt-ltb i (k + suc n) below)
    by false rest h = let same : k + 1 + n ≡ k + suc n = omega arith in rest h ∙ ap (nat_lt i) same

index_kept : (k : RegionKind) (b : Bool) → is_index k ≡ true → not (is_main k || (is_extension k && b)) ≡ true
index_kept kinds.Mpf b h = refl
index_kept k b h = absurd (cc h)

-- an index always stays
any_kept : (joined : List FileSpan) (rs : List Region) → any_index (kept joined rs) ≡ any_index rs
any_kept joined [] = refl
any_kept joined (r ∷ rs) = by (is_index r.kind) (is_kept joined r) refl refl (any_kept joined rs)
  where
    by : (a b : Bool) → is_index r.kind ≡ a → is_kept joined r ≡ b → any_index (kept joined rs) ≡ any_index rs
        → any_index (cond (is_kept joined r) (r ∷ kept joined rs) (kept joined rs)) ≡ (is_index r.kind || any_index rs)
    by a true e k h = ap (λ (b : Bool). any_index (cond b (r ∷ kept joined rs) (kept joined rs))) k ∙ ap (λ (b : Bool). is_index r.kind || b) h
    by true false e k h =
        let stays = index_kept r.kind (list_any (same_span r.payload) joined) e in
        let no : true ≡ false = sym stays ∙ k in absurd (cc)
    by false false e k h = ap (λ (b : Bool). any_index (cond b (r ∷ kept joined rs) (kept joined rs))) k ∙ h ∙ sym (ap (λ (b : Bool). b || any_index rs) e)

found_at : (k i : ℕ) (rs : List Region) → position_from (λ r. is_index r.kind) k rs ≡ Some i → find (λ r. is_index r.kind) rs ≡ slice_get rs (i - k)
found_at k i [] h = absurd (cc h)
found_at k i (r ∷ rs) h = by (is_index r.kind) (found_at (k + 1) i rs) (at_least (k + 1) i rs) h
  where
    further : k + 1 ≤ i → slice_get rs (i - (k + 1)) ≡ slice_get (r ∷ rs) (i - k)
    further above = let next : i - k ≡ suc (i - (k + 1)) = omega (arith, above) in sym (ap (slice_get (r ∷ rs)) next)

    by : (b : Bool) → (position_from (λ q. is_index q.kind) (k + 1) rs ≡ Some i → find (λ q. is_index q.kind) rs ≡ slice_get rs (i - (k + 1)))
        → (position_from (λ q. is_index q.kind) (k + 1) rs ≡ Some i → k + 1 ≤ i)
        → cond b (Some k) (position_from (λ q. is_index q.kind) (k + 1) rs) ≡ Some i → cond b (Some r) (find (λ q. is_index q.kind) rs) ≡ slice_get (r ∷ rs) (i - k)
    by true rest least h = let same : k ≡ i = cc h in let none : i - k ≡ 0 = omega (arith, same) in sym (ap (slice_get (r ∷ rs)) none)
    by false rest least h = rest h ∙ further (least h)

nowhere : (k : ℕ) (rs : List Region) → position_from (λ r. is_index r.kind) k rs ≡ None → find (λ r. is_index r.kind) rs ≡ None
nowhere k [] h = refl
nowhere k (r ∷ rs) h = by (is_index r.kind) (nowhere (k + 1) rs) h
  where
    by : (b : Bool) → (position_from (λ q. is_index q.kind) (k + 1) rs ≡ None → find (λ q. is_index q.kind) rs ≡ None)
        → cond b (Some k) (position_from (λ q. is_index q.kind) (k + 1) rs) ≡ None → cond b (Some r) (find (λ q. is_index q.kind) rs) ≡ None
    by true rest h = absurd (cc h)
    by false rest h = rest h

-- behind the first index stands the rest of the file
rest_len : (at end : ℕ) (rs : List Region) (r : Region) → Tiles at end rs → find (λ q. is_index q.kind) rs ≡ Some r → r.range.end + pictures_len rs ≡ end
rest_len at end [] r t h = absurd (cc h)
rest_len at end (x ∷ rs) r t h = by (is_index x.kind) (rest_len x.range.end end rs r t.4) h
  where
    by : (b : Bool) → (find (λ q. is_index q.kind) rs ≡ Some r → r.range.end + pictures_len rs ≡ end) → cond b (Some x) (find (λ q. is_index q.kind) rs) ≡ Some r
        → r.range.end + sum_by size_of (cond b rs (after_index rs)) ≡ end
    by true rest h = let same : x ≡ r = cc h in ap (λ (q : Region). q.range.end + sum_by size_of rs) (sym same) ∙ tiles_sum x.range.end end rs t.4
    by false rest h = rest h

pub within_list : (k i : ℕ) (rs : List Region) → position_from (λ r. is_index r.kind) k rs ≡ Some i → i < k + length rs
within_list k i [] h = absurd (cc h)
within_list k i (r ∷ rs) h = by (is_index r.kind) (within_list (k + 1) i rs) h
  where
    by : (b : Bool) → (position_from (λ q. is_index q.kind) (k + 1) rs ≡ Some i → i < k + 1 + length rs) → cond b (Some k) (position_from (λ q. is_index q.kind) (k + 1) rs) ≡ Some i
        → i < k + length (r ∷ rs)
    by true rest h = let same : k ≡ i = cc h in omega (arith, same)
    by false rest h = omega (arith, rest h)

pub no_index : (joined : List FileSpan) (regions : List Region) (first : Option ℕ) → first ≡ first_index regions → first ≡ None → None ≡ index_of joined regions
no_index joined regions first is none = sym (ap (index_at joined regions) (nowhere 0 regions (sym is ∙ none)))

-- what is told of the first index
module _ (joined : List FileSpan) (regions : List Region) (size i place : ℕ) (range : FileSpan) (t : Tiles 2 size regions) (at : first_index regions ≡ Some i)
    (told_range : option_map (λ r. r.range) (slice_get regions i) ≡ Some range) (goes : place ≡ goes_to joined regions) where
  is_there : Told (λ (r : Region). r.range) (find (λ r. is_index r.kind) regions) range
  is_there = let here : i - 0 ≡ i = omega arith in
      told (λ (r : Region). r.range) (find (λ r. is_index r.kind) regions) range (ap (option_map (λ (r : Region). r.range)) (found_at 0 i regions at ∙ ap (slice_get regions) here) ∙ told_range)

  pub old_is : range.end + pictures_len regions ≡ size
  old_is = ap (λ (s : FileSpan). s.end + pictures_len regions) (sym is_there.has) ∙ rest_len 2 size regions is_there.element t is_there.is

  pushed_is : nat_lt i place ≡ any_index (before joined regions)
  pushed_is = let whole : 0 + goes_to joined regions ≡ goes_to joined regions = omega arith in
      ap (nat_lt i) (goes ∙ sym whole)
      ∙ sym (pushed_at 0 i (goes_to joined regions) regions at)
      ∙ sym (any_kept joined (take (goes_to joined regions) regions))
      ∙ sym (ap any_index (before_is joined regions))

  pub index_is : (kept_sum : ℕ) → kept_sum ≡ pictures_len (kept joined regions)
      → Some (record { start = range.start; old = size - range.end; kept = kept_sum; pushed = nat_lt i place }) ≡ index_of joined regions
  index_is kept_sum sum =
      let old : size - range.end ≡ pictures_len regions = omega (arith, old_is) in
      (λ j. Some (record { start = (sym is_there.has j).start; old = old j; kept = sum j; pushed = pushed_is j }))
      ∙ sym (ap (index_at joined regions) is_there.is)

-- One region more is kept, or none.
module _ (joined : List FileSpan) (regions : List Region) (i : ℕ) where
  abbrev now : List Region
  now = kept joined (take i regions)

  abbrev next : List Region
  next = kept joined (take (i + 1) regions)

  kept_more : (r : Told (role joined) (slice_get regions i) Kept) → next ≡ now ++ r.element ∷ []
  kept_more r = ap (kept joined) (taken regions i r.element r.is) ∙ keeps joined (take i regions) r.element r.has

  pub gone_main : option_map (role joined) (slice_get regions i) ≡ Some Main → now ≡ next
  gone_main h = let r = told (role joined) (slice_get regions i) Main h in
      sym (ap (kept joined) (taken regions i r.element r.is) ∙ drops_main joined (take i regions) r.element r.has)

  pub gone_joined : option_map (role joined) (slice_get regions i) ≡ Some Joined → now ≡ next
  gone_joined h = let r = told (role joined) (slice_get regions i) Joined h in
      sym (ap (kept joined) (taken regions i r.element r.is) ∙ drops_joined joined (take i regions) r.element r.has)

  module _ (h : option_map (role joined) (slice_get regions i) ≡ Some Kept) where
    abbrev here : Told (role joined) (slice_get regions i) Kept
    here = told (role joined) (slice_get regions i) Kept h

    any_more : (b : Bool) → any_index now ≡ b → any_index next ≡ (b || (is_index here.element.kind || false))
    any_more b e = ap any_index (kept_more here) ∙ list_any-append (λ q. is_index q.kind) now (here.element ∷ []) ∙ ap (λ (x : Bool). x || (is_index here.element.kind || false)) e

    pub sum_seen : (sum : ℕ) (range : FileSpan) → any_index now ≡ true → option_map (λ r. r.range) (slice_get regions i) ≡ Some range → sum ≡ pictures_len now
        → sum + (range.end - range.start) ≡ pictures_len next
    sum_seen sum range seen at is =
        let same : Some here.element.range ≡ Some range = sym (ap (option_map (λ (q : Region). q.range)) here.is) ∙ at in
        let range_is : here.element.range ≡ range = cc same in
        sym (ap pictures_len (kept_more here) ∙ sum_push now here.element ∙ ap (λ (b : Bool). cond b (pictures_len now + size_of here.element) 0) seen
        ∙ (λ j. sym is j + ((range_is j).end - (range_is j).start)))

    pub seen_still : any_index now ≡ true → true ≡ any_index next
    seen_still seen = sym (any_more true seen)

    or_false : (b : Bool) → (b || false) ≡ b
    or_false true = refl
    or_false false = refl

    pub seen_now : (k : RegionKind) → any_index now ≡ false → option_map (λ r. r.kind) (slice_get regions i) ≡ Some k → is_index k ≡ any_index next
    seen_now k seen at =
        let same : Some here.element.kind ≡ Some k = sym (ap (option_map (λ (q : Region). q.kind)) here.is) ∙ at in
        let kind_is : here.element.kind ≡ k = cc same in
        sym (any_more false seen ∙ or_false (is_index here.element.kind) ∙ ap is_index kind_is)

    pub sum_unseen : (sum : ℕ) → any_index now ≡ false → sum ≡ pictures_len now → sum ≡ pictures_len next
    sum_unseen sum seen is =
        is ∙ sum_none now seen ∙ sym (ap pictures_len (kept_more here) ∙ sum_push now here.element ∙ ap (λ (b : Bool). cond b (pictures_len now + size_of here.element) 0) seen)

pub kept_small : (joined : List FileSpan) (regions : List Region) (size n : ℕ) → Tiles 2 size regions → pictures_len (kept joined (take n regions)) ≤ size
kept_small joined regions size n t =
    omega (arith, sum_most (kept joined (take n regions)), kept_most joined (take n regions), sum_by-take-le size_of regions n, tiles_sum 2 size regions t)

pub range_order : (size i : ℕ) (regions : List Region) (range : FileSpan) → Tiles 2 size regions → option_map (λ r. r.range) (slice_get regions i) ≡ Some range → range.start ≤ range.end
range_order size i regions range t at =
    let r = told (λ (q : Region). q.range) (slice_get regions i) range at in
    let l = lies 2 size regions i r.element t r.is in
    let order : r.element.range.start ≤ r.element.range.end = omega (arith, l.begins, l.order, l.inside) in
    subst (λ (s : FileSpan). s.start ≤ s.end) r.has order
