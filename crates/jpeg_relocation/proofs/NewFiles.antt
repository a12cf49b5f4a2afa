-- The new file is cut into the segments that stay and the new ones.
use Rattle.std.proofs.Common.{◌≡◌, ℕ, ◌+◌, ◌≤◌, ◌&&◌, ◌||◌, not, Bool, true, false, cond, List, [], ◌∷◌, ◌++◌, length, map, take, drop, refl, sym, ap, ◌∙◌, subst, arith, append_assoc}
use Rattle.std.specs.Prelude.{flat_map, filter}
use Rattle.std.specs.List.{AllByRecursion, list_any, prefix_len}
use Rattle.std.proofs.lemmas.List.{append-nil, length-map, take-append-drop, take-append-le, drop-append-le, map-append}
use Rattle.std.proofs.lemmas.List.Elements.{filter-append}
use Rattle.xmp_base.specs.declared.file_span.FileSpan.{FileSpan}
use Rattle.jpeg_regions.specs.declared.marker.Class.{Class}
use Rattle.jpeg_regions.specs.declared.marker.Class.TheVariants.{Last}
use Rattle.jpeg_regions.specs.declared.kind.RegionKind.TheVariants as kinds
use Rattle.jpeg_regions.specs.Markers.{class_of}
use Rattle.jpeg_regions.specs.Jpeg.{Segment, Region, Cuts, IsInner, text, region_by, placed, is_main, is_extension}
use Rattle.jpeg_regions.proofs.Exchanges.{join-append}
use Rattle.jpeg_relocation.specs.declared.roles.Role.TheVariants.{Kept, Main, Joined}
use Rattle.jpeg_relocation.specs.Relocation.{same_span, has_main, is_kept, kept, part_of, place, before, after, relocated_file}
use Rattle.jpeg_relocation.specs.Roles.{goes_before, stops}
use Rattle.jpeg_relocation.specs.NewSegments.{stacked, relocated_list}
use Rattle.jpeg_relocation.proofs.Places.{goes_to, goes_main, same_prefix, before_is, after_is}
use Rattle.jpeg_relocation.proofs.Located.{Spot, there, segment, located, placed_is, segments_of, located-append, filter-map, take-map, drop-map, all_filter, all_take, all_drop, all_both, all_first, all_second, all_map, all_located, stacked_is, Has, has_all, bytes_are}

-- The tail stands after the place.

tail_kind : (c : Class) (at : ℕ) (s : Segment) → c ≡ Last → (region_by c at s).kind ≡ kinds.Tail
tail_kind Last at s e = refl
tail_kind c at s e = absurd (cc e)

stop_main : (rs : List Region) (r : Region) → is_main r.kind ≡ false → has_main (rs ++ r ∷ []) ≡ true → prefix_len (λ q. not (is_main q.kind)) (rs ++ r ∷ []) ≤ length rs
stop_main [] r m h = let k : false ≡ true = sym (ap (λ (b : Bool). b || false) m) ∙ h in absurd (cc)
stop_main (x ∷ rs) r m h = by (is_main x.kind) h (stop_main rs r m)
  where
    by : (b : Bool) → (b || has_main (rs ++ r ∷ [])) ≡ true → (has_main (rs ++ r ∷ []) ≡ true → prefix_len (λ q. not (is_main q.kind)) (rs ++ r ∷ []) ≤ length rs)
        → cond (not b) (1 + prefix_len (λ q. not (is_main q.kind)) (rs ++ r ∷ [])) 0 ≤ length (x ∷ rs)
    by true h rest = omega arith
    by false h rest = omega (arith, rest h)

stop_last : (p : Region → Bool) (rs : List Region) (r : Region) → p r ≡ false → prefix_len p (rs ++ r ∷ []) ≤ length rs
stop_last p [] r h = let k : prefix_len p (r ∷ []) ≡ 0 = ap (λ (b : Bool). cond b (1 + prefix_len p []) 0) h in omega (arith, k)
stop_last p (x ∷ rs) r h = by (p x) (stop_last p rs r h)
  where
    by : (b : Bool) → prefix_len p (rs ++ r ∷ []) ≤ length rs → cond b (1 + prefix_len p (rs ++ r ∷ [])) 0 ≤ length (x ∷ rs)
    by true rest = omega (arith, rest)
    by false rest = omega arith

tail_role : (joined : List FileSpan) (first : Bool) (r : Region) → r.kind ≡ kinds.Tail → goes_before joined first r ≡ not first
tail_role joined first r k =
    (λ i. not (stops first (cond (is_main (k i)) Main (cond (is_extension (k i) && list_any (same_span r.payload) joined) Joined Kept)) (k i))) ∙ by first
  where
    by : (b : Bool) → not (b && true) ≡ not b
    by true = refl
    by false = refl

pub stops_within : (joined : List FileSpan) (rs : List Region) (r : Region) → r.kind ≡ kinds.Tail → goes_to joined (rs ++ r ∷ []) ≤ length rs
stops_within joined rs r k = by (has_main (rs ++ r ∷ [])) refl
  where
    by : (b : Bool) → has_main (rs ++ r ∷ []) ≡ b → prefix_len (goes_before joined (not b)) (rs ++ r ∷ []) ≤ length rs
    by true h = let same = same_prefix (goes_before joined false) (λ q. not (is_main q.kind)) (goes_main joined) (rs ++ r ∷ []) in
        omega (arith, same, stop_main rs r (ap is_main k) h)
    by false h = stop_last (goes_before joined true) rs r (tail_role joined true r k)

pub tail_kept : (joined : List FileSpan) (r : Region) → r.kind ≡ kinds.Tail → is_kept joined r ≡ true
tail_kept joined r k = (λ i. not (is_main (k i) || (is_extension (k i) && list_any (same_span r.payload) joined)))

-- What stays of a file, by segments.
module _ (file : List ℕ) (joined : List FileSpan) (regions : List Region) (cuts : Cuts file regions) where
  abbrev pub spots : List Spot
  spots = located 2 cuts.segments

  abbrev pub last : Spot
  last = (2 + length (flat_map text cuts.segments), cuts.tail)

  all_is : located 2 (cuts.segments ++ cuts.tail ∷ []) ≡ spots ++ last ∷ []
  all_is = located-append 2 cuts.segments (cuts.tail ∷ [])

  listed : regions ≡ map there spots ++ there last ∷ []
  listed = cuts.listed ∙ placed_is 2 (cuts.segments ++ cuts.tail ∷ []) ∙ ap (map there) all_is ∙ map-append there spots (last ∷ [])

  has : AllByRecursion (Has file) (spots ++ last ∷ [])
  has =
      let bytes : 0xFF ∷ 0xD8 ∷ (flat_map text (cuts.segments ++ cuts.tail ∷ []) ++ []) ≡ file =
      ap (λ (l : List ℕ). 0xFF ∷ 0xD8 ∷ l) (append-nil (flat_map text (cuts.segments ++ cuts.tail ∷ []))) ∙ sym cuts.bytes in
      subst (λ (l : List ℕ). AllByRecursion (Has l) (spots ++ last ∷ [])) bytes
      (subst (λ xs. AllByRecursion (Has (0xFF ∷ 0xD8 ∷ (flat_map text (cuts.segments ++ cuts.tail ∷ []) ++ []))) xs) all_is
      (has_all (0xFF ∷ 0xD8 ∷ []) [] (cuts.segments ++ cuts.tail ∷ []) 2 refl))

  pub is_last : (there last).kind ≡ kinds.Tail
  is_last = tail_kind (class_of cuts.tail.marker) last.0 cuts.tail cuts.last.last

  within : goes_to joined regions ≤ length spots
  within = let size : length (map there spots) ≡ length spots = length-map spots there in
      subst (λ (k : ℕ). goes_to joined regions ≤ k) size
      (subst (λ rs. goes_to joined rs ≤ length (map there spots)) (sym listed) (stops_within joined (map there spots) (there last) is_last))

  abbrev pub stays : Spot → Bool
  stays = λ x. is_kept joined (there x)

  -- what stays before the place, and after it but for the tail
  abbrev pub front : List Spot
  front = filter stays (take (goes_to joined regions) spots)

  abbrev pub behind : List Spot
  behind = filter stays (drop (goes_to joined regions) spots)

  abbrev pub back : List Spot
  back = behind ++ last ∷ []

  pub before_there : before joined regions ≡ map there front
  before_there =
      let n = goes_to joined regions in
      before_is joined regions
      ∙ ap (λ rs. kept joined (take n rs)) (cuts.listed ∙ placed_is 2 (cuts.segments ++ cuts.tail ∷ []) ∙ ap (map there) all_is)
      ∙ ap (kept joined) (take-map there n (spots ++ last ∷ []))
      ∙ ap (λ xs. kept joined (map there xs)) (take-append-le n spots (last ∷ []) within)
      ∙ filter-map (is_kept joined) there (take n spots)

  last_kept : filter stays (last ∷ []) ≡ last ∷ []
  last_kept = ap (λ (b : Bool). cond b (last ∷ []) []) (tail_kept joined (there last) is_last)

  pub after_there : after joined regions ≡ map there back
  after_there =
      let n = goes_to joined regions in
      after_is joined regions
      ∙ ap (λ rs. kept joined (drop n rs)) (cuts.listed ∙ placed_is 2 (cuts.segments ++ cuts.tail ∷ []) ∙ ap (map there) all_is)
      ∙ ap (kept joined) (drop-map there n (spots ++ last ∷ []))
      ∙ ap (λ xs. kept joined (map there xs)) (drop-append-le n spots (last ∷ []) within)
      ∙ filter-map (is_kept joined) there (drop n spots ++ last ∷ [])
      ∙ ap (map there) (filter-append stays (drop n spots) (last ∷ []) ∙ ap (λ xs. behind ++ xs) last_kept)

  pub kept_there : kept joined regions ≡ map there (front ++ back)
  kept_there = sym (take-append-drop (place joined regions) (kept joined regions)) ∙ (λ i. before_there i ++ after_there i) ∙ sym (map-append there front back)

  has_spots : AllByRecursion (Has file) spots
  has_spots = all_first (Has file) spots (last ∷ []) has

  pub has_front : AllByRecursion (Has file) front
  has_front = all_filter (Has file) stays (take (goes_to joined regions) spots) (all_take (Has file) (goes_to joined regions) spots has_spots)

  has_last : AllByRecursion (Has file) (last ∷ [])
  has_last = all_second (Has file) spots (last ∷ []) has

  pub has_back : AllByRecursion (Has file) back
  has_back = all_both (Has file) behind (last ∷ []) (all_filter (Has file) stays (drop (goes_to joined regions) spots) (all_drop (Has file) (goes_to joined regions) spots has_spots)) has_last

  abbrev inner_spots : AllByRecursion (λ (x : Spot). IsInner x.1) spots
  inner_spots = all_located IsInner 2 cuts.segments cuts.inner

  pub inner_front : AllByRecursion IsInner (map segment front)
  inner_front = all_map IsInner segment front (all_filter (λ (x : Spot). IsInner x.1) stays (take (goes_to joined regions) spots) (all_take (λ (x : Spot). IsInner x.1) (goes_to joined regions) spots inner_spots))

  pub inner_behind : AllByRecursion IsInner (map segment behind)
  inner_behind = all_map IsInner segment behind (all_filter (λ (x : Spot). IsInner x.1) stays (drop (goes_to joined regions) spots) (all_drop (λ (x : Spot). IsInner x.1) (goes_to joined regions) spots inner_spots))

  back_is : map segment back ≡ map segment behind ++ cuts.tail ∷ []
  back_is = map-append segment behind (last ∷ [])

  module _ (news : List Segment) (inner : AllByRecursion IsInner news) where
    abbrev pub new_inner : List Segment
    new_inner = map segment front ++ (news ++ map segment behind)

    grouped : map segment front ++ (news ++ map segment back) ≡ new_inner ++ cuts.tail ∷ []
    grouped = ap (λ ss. map segment front ++ (news ++ ss)) back_is
        ∙ ap (λ ss. map segment front ++ ss) (sym (append_assoc news (map segment behind) (cuts.tail ∷ [])))
        ∙ sym (append_assoc (map segment front) (news ++ map segment behind) (cuts.tail ∷ []))

    pub new_bytes : relocated_file file joined regions (flat_map text news) ≡ 0xFF ∷ 0xD8 ∷ flat_map text (map segment front ++ (news ++ map segment back))
    new_bytes = ap (λ (l : List ℕ). 0xFF ∷ 0xD8 ∷ l) (
        (λ i. flat_map (part_of file) (before_there i) ++ (flat_map text news ++ flat_map (part_of file) (after_there i)))
        ∙ (λ i. bytes_are file front has_front i ++ (flat_map text news ++ bytes_are file back has_back i))
        ∙ ap (λ (l : List ℕ). flat_map text (map segment front) ++ l) (sym (join-append news (map segment back)))
        ∙ sym (join-append (map segment front) (news ++ map segment back))
        )

    pub new_listed : relocated_list joined regions news ≡ placed 2 (map segment front ++ (news ++ map segment back))
    new_listed =
        (λ i. stacked 2 (before_there i ++ (placed_is 0 news i ++ after_there i)))
        ∙ ap (λ rs. stacked 2 (map there front ++ rs)) (sym (map-append there (located 0 news) back))
        ∙ ap (stacked 2) (sym (map-append there front (located 0 news ++ back)))
        ∙ stacked_is 2 (front ++ (located 0 news ++ back))
        ∙ ap (placed 2) (map-append segment front (located 0 news ++ back) ∙ ap (λ ss. map segment front ++ ss) (map-append segment (located 0 news) back
        ∙ ap (λ ss. ss ++ map segment back) (segments_of 0 news)))

    pub new_cuts : Cuts (relocated_file file joined regions (flat_map text news)) (relocated_list joined regions news)
    new_cuts = record {
      segments = new_inner;
      tail = cuts.tail;
      bytes = new_bytes ∙ ap (λ ss. 0xFF ∷ 0xD8 ∷ flat_map text ss) grouped;
      inner = all_both IsInner (map segment front) (news ++ map segment behind) inner_front (all_both IsInner news (map segment behind) inner inner_behind);
      last = cuts.last;
      listed = new_listed ∙ ap (placed 2) grouped;
    }
