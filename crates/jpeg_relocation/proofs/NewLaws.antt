-- The laws of the new file.
use Rattle.std.proofs.Common.{◌≡◌, ℕ, ◌+◌, ◌<◌, ◌≤◌, ◌||◌, ◌&&◌, not, Bool, true, false, cond, List, [], ◌∷◌, ◌++◌, length, map, take, drop, refl, sym, ap, ◌∙◌, subst, arith, inl, inr, ◌⊎◌}
use Rattle.std.specs.Prelude.{flat_map, filter, sum_by}
use Rattle.std.specs.List.{AllByRecursion, list_any}
use Rattle.std.proofs.lemmas.List.{append-nil, map-append}
use Rattle.std.proofs.lemmas.List.Elements.{filter-append}
use Rattle.xmp_base.specs.declared.file_span.FileSpan.{FileSpan}
use Rattle.jpeg_regions.specs.Jpeg.{Segment, Region, Cuts, IsInner, text, region, placed, mains, is_main, is_extension, portion_payloads}
use Rattle.jpeg_regions.proofs.Exchanges.{placed-append}
use Rattle.jpeg_extended.specs.Portions.{portion_of}
use Rattle.jpeg_extended.specs.FromDesk.{payload_at, named_at, portions_at}
use Rattle.jpeg_relocation.specs.Relocation.{same_span, is_joined, is_kept, kept, part_of, before, relocated_file}
use Rattle.jpeg_relocation.specs.Pictures.{size_of}
use Rattle.jpeg_relocation.specs.NewSegments.{relocated_list}
use Rattle.jpeg_relocation.proofs.Located.{Spot, there, segment, located, placed_is, segments_of, located-append, filter-map, all_both, all_first, all_second, all_passed, all_weaken, all_map, all_located, sizes_are, Has, has_all, parts_are, kind_in, kind_is, payload_in, payload_is}
use Rattle.jpeg_relocation.proofs.Places.{goes_to}
use Rattle.jpeg_relocation.proofs.NewFiles.{spots, last, front, back, behind, stays, before_there, kept_there, has_front, has_back, new_bytes, new_listed, tail_kept, is_last}
use Rattle.jpeg_relocation.proofs.NewRegions.{filter_all, filter_none, none_filtered, NotMain, kind_main, no_mains, ends_before, starts_after, none_later, none_earlier, all_among, bears, named_are, portions_say}

all_zip : {A : Type 0} (P Q : A → Type 0) (xs : List A) → AllByRecursion P xs → AllByRecursion Q xs → AllByRecursion (λ x. P x × Q x) xs
all_zip P Q [] h k = tt
all_zip P Q (x ∷ xs) h k = ((h.0, k.0), all_zip P Q xs h.1 k.1)

map_none : {A B : Type 0} (f : A → B) (xs : List A) → map f xs ≡ [] → xs ≡ []
map_none f [] h = refl
map_none f (x ∷ xs) h = absurd (cc h)

first_false : (a b : Bool) → not (a || b) ≡ true → a ≡ false
first_false true b h = absurd (cc h)
first_false false b h = refl

kept_false : (a b : Bool) → (a ≡ true) ⊎ (b ≡ true) → not (a || b) ≡ false
kept_false true b h = refl
kept_false false true h = refl
kept_false false false (inl h) = absurd (cc h)
kept_false false false (inr h) = absurd (cc h)

and_false : (a b : Bool) → b ≡ false → (a && b) ≡ false
and_false true b e = e
and_false false b e = refl

not_main : (joined : List FileSpan) (x : Spot) → is_kept joined (there x) ≡ true → is_main (kind_in x.1) ≡ false
not_main joined x h = sym (ap is_main (kind_is x)) ∙ first_false (is_main (there x).kind) (is_joined joined (there x)) h

-- The new segments are a main one and others, which are portions.
module _ (file : List ℕ) (joined : List FileSpan) (regions : List Region) (cuts : Cuts file regions) (main : Segment) (others : List Segment)
    (inner : AllByRecursion IsInner (main ∷ others)) (is_the_main : is_main (kind_in main) ≡ true) (plain : AllByRecursion (λ s. (is_main (kind_in s) ≡ false) × (is_extension (kind_in s) ≡ true)) others) where
  abbrev pub news : List Segment
  news = main ∷ others

  abbrev pub old_front : List Spot
  old_front = front file joined regions cuts

  abbrev pub old_back : List Spot
  old_back = back file joined regions cuts

  abbrev pub first : List Segment
  first = map segment old_front

  abbrev pub later : List Segment
  later = map segment old_back

  abbrev pub new : List ℕ
  new = relocated_file file joined regions (flat_map text news)

  -- where the new segments and the later ones begin
  abbrev pub at : ℕ
  at = 2 + length (flat_map text first)

  abbrev pub after_new : ℕ
  after_new = at + length (flat_map text news)

  abbrev pub front_spots : List Spot
  front_spots = located 2 first

  abbrev pub new_spots : List Spot
  new_spots = located at news

  abbrev pub back_spots : List Spot
  back_spots = located after_new later

  abbrev pub new_all : List Spot
  new_all = front_spots ++ (new_spots ++ back_spots)

  pub all_there : located 2 (first ++ (news ++ later)) ≡ new_all
  all_there = located-append 2 first (news ++ later) ∙ ap (λ xs. front_spots ++ xs) (located-append at news later)

  pub list_there : relocated_list joined regions news ≡ map there new_all
  list_there = new_listed file joined regions cuts news inner ∙ placed_is 2 (first ++ (news ++ later)) ∙ ap (map there) all_there

  pub has_new : AllByRecursion (Has new) new_all
  has_new =
      let bytes : 0xFF ∷ 0xD8 ∷ (flat_map text (first ++ (news ++ later)) ++ []) ≡ new =
      ap (λ (l : List ℕ). 0xFF ∷ 0xD8 ∷ l) (append-nil (flat_map text (first ++ (news ++ later)))) ∙ sym (new_bytes file joined regions cuts news inner) in
      subst (λ (l : List ℕ). AllByRecursion (Has l) new_all) bytes
      (subst (λ xs. AllByRecursion (Has (0xFF ∷ 0xD8 ∷ (flat_map text (first ++ (news ++ later)) ++ []))) xs) all_there
      (has_all (0xFF ∷ 0xD8 ∷ []) [] (first ++ (news ++ later)) 2 refl))

  pub place_is : 2 + sum_by size_of (before joined regions) ≡ at
  place_is = ap (λ (n : ℕ). 2 + n) (ap (sum_by size_of) (before_there file joined regions cuts) ∙ sizes_are old_front)

  -- no region that stays is a main one

  plain_front : AllByRecursion NotMain first
  plain_front = all_map NotMain segment old_front (all_weaken (λ (x : Spot). stays file joined regions cuts x ≡ true) (λ (x : Spot). NotMain x.1) (not_main joined) old_front
      (all_passed (stays file joined regions cuts) (take (goes_to joined regions) (spots file joined regions cuts))))

  stays_back : AllByRecursion (λ (x : Spot). stays file joined regions cuts x ≡ true) old_back
  stays_back = all_both (λ (x : Spot). stays file joined regions cuts x ≡ true) (behind file joined regions cuts) (last file joined regions cuts ∷ [])
      (all_passed (stays file joined regions cuts) (drop (goes_to joined regions) (spots file joined regions cuts)))
      (tail_kept joined (there (last file joined regions cuts)) (is_last file joined regions cuts), tt)

  plain_back : AllByRecursion NotMain later
  plain_back = all_map NotMain segment old_back (all_weaken (λ (x : Spot). stays file joined regions cuts x ≡ true) (λ (x : Spot). NotMain x.1) (not_main joined) old_back stays_back)

  new_mains : mains (placed at news) ≡ region at main ∷ []
  new_mains =
      (λ i. cond (kind_main (at, main) true is_the_main i) (region at main ∷ mains (placed (at + length (text main)) others)) (mains (placed (at + length (text main)) others)))
      ∙ ap (λ rs. region at main ∷ rs) (no_mains (at + length (text main)) others (all_weaken (λ s. (is_main (kind_in s) ≡ false) × (is_extension (kind_in s) ≡ true)) NotMain (λ s h. h.0) others plain))

  pub mains_are : mains (relocated_list joined regions news) ≡ region at main ∷ []
  mains_are =
      ap mains (new_listed file joined regions cuts news inner ∙ placed-append 2 first (news ++ later) ∙ ap (λ rs. placed 2 first ++ rs) (placed-append at news later))
      ∙ filter-append (λ r. is_main r.kind) (placed 2 first) (placed at news ++ placed after_new later)
      ∙ (λ i. no_mains 2 first plain_front i ++ filter-append (λ r. is_main r.kind) (placed at news) (placed after_new later) i)
      ∙ (λ i. new_mains i ++ no_mains after_new later plain_back i)

  has_middle : AllByRecursion (Has new) (new_spots ++ back_spots)
  has_middle = all_second (Has new) front_spots (new_spots ++ back_spots) has_new

  pub main_payload : map (λ r. payload_at new r.payload) (mains (relocated_list joined regions news)) ≡ payload_in main ∷ []
  main_payload = ap (map (λ r. payload_at new r.payload)) mains_are ∙ ap (λ (l : List ℕ). l ∷ []) (payload_is new (at, main) has_middle.0)

  -- what stays keeps its bytes

  abbrev joined_now : List FileSpan
  joined_now = portion_payloads (placed at news)

  abbrev stays_now : Spot → Bool
  stays_now = λ x. is_kept joined_now (there x)

  keeps : (x : Spot) → NotMain x.1 × (list_any (same_span (there x).payload) joined_now ≡ false) → stays_now x ≡ true
  keeps x h = (λ i. not (kind_main x false h.0 i || and_false (is_extension (there x).kind) (list_any (same_span (there x).payload) joined_now) h.1 i))

  keeps_front : filter stays_now front_spots ≡ front_spots
  keeps_front = filter_all stays_now front_spots (all_weaken (λ (x : Spot). NotMain x.1 × ((there x).payload.end ≤ at)) (λ (x : Spot). stays_now x ≡ true)
      (λ x h. keeps x (h.0, none_later (there x).payload at news h.1)) front_spots
      (all_zip (λ (x : Spot). NotMain x.1) (λ (x : Spot). (there x).payload.end ≤ at) front_spots (all_located NotMain 2 first plain_front) (ends_before 2 first at refl)))

  keeps_back : filter stays_now back_spots ≡ back_spots
  keeps_back = filter_all stays_now back_spots (all_weaken (λ (x : Spot). NotMain x.1 × (after_new < (there x).payload.start)) (λ (x : Spot). stays_now x ≡ true)
      (λ x h. keeps x (h.0, none_earlier (there x).payload at news inner h.1)) back_spots
      (all_zip (λ (x : Spot). NotMain x.1) (λ (x : Spot). after_new < (there x).payload.start) back_spots (all_located NotMain after_new later plain_back) (starts_after after_new after_new later (omega arith))))

  among : AllByRecursion (λ (x : Spot). is_extension (there x).kind ≡ true → list_any (same_span (there x).payload) joined_now ≡ true) new_spots
  among = subst (λ rs. AllByRecursion (λ (x : Spot). is_extension (there x).kind ≡ true → list_any (same_span (there x).payload) (portion_payloads rs) ≡ true) new_spots)
      (sym (placed_is at news)) (all_among [] new_spots)

  drops_new : filter stays_now new_spots ≡ []
  drops_new =
      let other_spots = located (at + length (text main)) others in
      filter_none stays_now new_spots (
        kept_false (is_main (region at main).kind) (is_joined joined_now (region at main)) (inl (kind_main (at, main) true is_the_main)),
        all_weaken (λ (x : Spot). (is_extension (kind_in x.1) ≡ true) × (is_extension (there x).kind ≡ true → list_any (same_span (there x).payload) joined_now ≡ true)) (λ (x : Spot). stays_now x ≡ false)
            (λ x h. let e : is_extension (there x).kind ≡ true = ap is_extension (kind_is x) ∙ h.0 in
            kept_false (is_main (there x).kind) (is_joined joined_now (there x)) (inr (λ i. e i && h.1 e i)))
            other_spots
            (all_zip (λ (x : Spot). is_extension (kind_in x.1) ≡ true) (λ (x : Spot). is_extension (there x).kind ≡ true → list_any (same_span (there x).payload) joined_now ≡ true) other_spots
            (all_located (λ s. is_extension (kind_in s) ≡ true) (at + length (text main)) others
            (all_weaken (λ s. (is_main (kind_in s) ≡ false) × (is_extension (kind_in s) ≡ true)) (λ s. is_extension (kind_in s) ≡ true) (λ s h. h.1) others plain))
            among.1),
      )

  kept_now : kept joined_now (relocated_list joined regions news) ≡ map there (front_spots ++ back_spots)
  kept_now =
      ap (kept joined_now) list_there
      ∙ filter-map (is_kept joined_now) there new_all
      ∙ ap (map there) (
      filter-append stays_now front_spots (new_spots ++ back_spots)
      ∙ (λ i. keeps_front i ++ filter-append stays_now new_spots back_spots i)
      ∙ (λ i. front_spots ++ (drops_new i ++ keeps_back i))
      )

  pub has_kept : AllByRecursion (Has new) (front_spots ++ back_spots)
  has_kept = all_both (Has new) front_spots back_spots (all_first (Has new) front_spots (new_spots ++ back_spots) has_new) (all_second (Has new) new_spots back_spots has_middle)

  pub same_bytes : map (part_of new) (kept joined_now (relocated_list joined regions news)) ≡ map (part_of file) (kept joined regions)
  same_bytes =
      ap (map (part_of new)) kept_now
      ∙ parts_are new (front_spots ++ back_spots) has_kept
      ∙ ap (map text) (map-append segment front_spots back_spots ∙ (λ i. segments_of 2 first i ++ segments_of after_new later i) ∙ sym (map-append segment old_front old_back))
      ∙ sym (parts_are file (old_front ++ old_back) (all_both (Has file) old_front old_back (has_front file joined regions cuts) (has_back file joined regions cuts)))
      ∙ sym (ap (map (part_of file)) (kept_there file joined regions cuts))

  -- the portions of a name that no portion that stays bears

  module _ (name : List ℕ) (none : named_at file name (portion_payloads (kept joined regions)) ≡ []) (named : AllByRecursion (λ s. bears name s ≡ true) others) (unnamed : bears name main ≡ false) where
    abbrev by_name : Spot → Bool
    by_name = λ x. bears name x.1

    unnamed_old : AllByRecursion (λ (x : Spot). bears name x.1 ≡ false) (old_front ++ old_back)
    unnamed_old = none_filtered by_name (old_front ++ old_back) (map_none (λ (x : Spot). (there x).payload) (filter by_name (old_front ++ old_back)) (
        sym (named_are file name (old_front ++ old_back) (all_both (Has file) old_front old_back (has_front file joined regions cuts) (has_back file joined regions cuts)))
        ∙ sym (ap (λ rs. named_at file name (portion_payloads rs)) (kept_there file joined regions cuts))
        ∙ none
        ))

    unnamed_front : filter by_name front_spots ≡ []
    unnamed_front = filter_none by_name front_spots (all_located (λ s. bears name s ≡ false) 2 first
        (all_map (λ s. bears name s ≡ false) segment old_front (all_first (λ (x : Spot). bears name x.1 ≡ false) old_front old_back unnamed_old)))

    unnamed_back : filter by_name back_spots ≡ []
    unnamed_back = filter_none by_name back_spots (all_located (λ s. bears name s ≡ false) after_new later
        (all_map (λ s. bears name s ≡ false) segment old_back (all_second (λ (x : Spot). bears name x.1 ≡ false) old_front old_back unnamed_old)))

    abbrev pub other_spots : List Spot
    other_spots = located (at + length (text main)) others

    pub named_new : filter by_name new_spots ≡ other_spots
    named_new = (λ i. cond (unnamed i) ((at, main) ∷ filter by_name other_spots) (filter by_name other_spots))
        ∙ filter_all by_name other_spots (all_located (λ s. bears name s ≡ true) (at + length (text main)) others named)

    named_spots : filter by_name new_all ≡ other_spots
    named_spots =
        filter-append by_name front_spots (new_spots ++ back_spots)
        ∙ (λ i. unnamed_front i ++ filter-append by_name new_spots back_spots i)
        ∙ (λ i. named_new i ++ unnamed_back i)
        ∙ append-nil other_spots

    pub found_now : named_at new name (portion_payloads (relocated_list joined regions news)) ≡ map (λ x. (there x).payload) other_spots
    found_now = ap (λ rs. named_at new name (portion_payloads rs)) list_there ∙ named_are new name new_all has_new ∙ ap (map (λ x. (there x).payload)) named_spots

    pub they_say : portions_at new name (map (λ x. (there x).payload) other_spots) ≡ flat_map (portion_of name) (map payload_in others)
    they_say = portions_say new name other_spots has_middle_others ∙ ap (λ ss. flat_map (portion_of name) (map payload_in ss)) (segments_of (at + length (text main)) others)
      where
        has_middle_others : AllByRecursion (Has new) other_spots
        has_middle_others = all_first (Has new) other_spots back_spots has_middle.1
