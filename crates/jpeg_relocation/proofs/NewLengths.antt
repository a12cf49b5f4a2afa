-- The length of the new file, and of what stands after its first index.
use Rattle.std.proofs.Common.{◌≡◌, ℕ, ◌+◌, ◌||◌, Bool, true, false, cond, List, [], ◌∷◌, ◌++◌, length, map, refl, sym, ap, ◌∙◌, arith}
use Rattle.std.specs.Prelude.{flat_map, sum_by}
use Rattle.std.specs.List.{AllByRecursion, list_any}
use Rattle.std.proofs.lemmas.List.{length-append, map-append}
use Rattle.xmp_base.specs.declared.file_span.FileSpan.{FileSpan}
use Rattle.jpeg_regions.specs.declared.kind.RegionKind.{RegionKind}
use Rattle.jpeg_regions.specs.declared.kind.RegionKind.TheVariants as kinds
use Rattle.jpeg_regions.specs.Jpeg.{Segment, Region, Cuts, IsInner, text, is_main, is_extension}
use Rattle.jpeg_regions.proofs.Exchanges.{join-append}
use Rattle.jpeg_relocation.specs.Relocation.{kept, before, relocated_file}
use Rattle.jpeg_relocation.specs.Pictures.{is_index, size_of, after_index, pictures_len}
use Rattle.jpeg_relocation.specs.NewSegments.{main_segment, relocated_list}
use Rattle.jpeg_relocation.proofs.Indexes.{any_index}
use Rattle.jpeg_relocation.proofs.Located.{Spot, there, segment, located, placed_is, segments_of, sizes_are, kind_in, kind_is}
use Rattle.jpeg_relocation.proofs.NewFiles.{front, back, before_there, kept_there, new_bytes, new_listed}

-- the same of segments, wherever they stand
any_in : List Segment → Bool
any_in ss = list_any (λ s. is_index (kind_in s)) ss

abbrev after_in : List Segment → ℕ
after_in [] = 0
after_in (s ∷ ss) = cond (is_index (kind_in s)) (length (flat_map text ss)) (after_in ss)

after_is : (xs : List Spot) → pictures_len (map there xs) ≡ after_in (map segment xs)
after_is [] = refl
after_is (x ∷ xs) =
    (λ i. sum_by size_of (cond (is_index (kind_is x i)) (map there xs) (after_index (map there xs)))) ∙ by (is_index (kind_in x.1)) (after_is xs)
  where
    by : (b : Bool) → pictures_len (map there xs) ≡ after_in (map segment xs)
        → sum_by size_of (cond b (map there xs) (after_index (map there xs))) ≡ cond b (length (flat_map text (map segment xs))) (after_in (map segment xs))
    by true h = sizes_are xs
    by false h = h

any_is : (xs : List Spot) → any_index (map there xs) ≡ any_in (map segment xs)
unfolding any_in
any_is [] = refl
any_is (x ∷ xs) = (λ i. is_index (kind_is x i) || any_is xs i)

after-append : (ss ts : List Segment) → after_in (ss ++ ts) ≡ cond (any_in ss) (after_in ss + length (flat_map text ts)) (after_in ts)
unfolding any_in
after-append [] ts = refl
after-append (s ∷ ss) ts = by (is_index (kind_in s)) (after-append ss ts)
  where
    by : (b : Bool) → after_in (ss ++ ts) ≡ cond (any_in ss) (after_in ss + length (flat_map text ts)) (after_in ts)
        → cond b (length (flat_map text (ss ++ ts))) (after_in (ss ++ ts)) ≡ cond (b || any_in ss) (cond b (length (flat_map text ss)) (after_in ss) + length (flat_map text ts)) (after_in ts)
    by true h = ap length (join-append ss ts) ∙ length-append (flat_map text ss) (flat_map text ts)
    by false h = h

abbrev pub NoIndex : Segment → Type 0
NoIndex s = is_index (kind_in s) ≡ false

none_in : (ss : List Segment) → AllByRecursion NoIndex ss → any_in ss ≡ false
unfolding any_in
none_in [] h = refl
none_in (s ∷ ss) h = (λ i. h.0 i || none_in ss h.1 i)

extension_no_index : (k : RegionKind) → is_extension k ≡ true → is_index k ≡ false
extension_no_index kinds.Portion h = refl
extension_no_index k h = absurd (cc h)

others_no_index : (ss : List Segment) → AllByRecursion (λ s. (is_main (kind_in s) ≡ false) × (is_extension (kind_in s) ≡ true)) ss → AllByRecursion NoIndex ss
others_no_index [] h = tt
others_no_index (s ∷ ss) h = (extension_no_index (kind_in s) h.0.1, others_no_index ss h.1)

pub no_index_all : (packet : List ℕ) (others : List Segment) → AllByRecursion (λ s. (is_main (kind_in s) ≡ false) × (is_extension (kind_in s) ≡ true)) others
    → AllByRecursion NoIndex (main_segment packet ∷ others)
no_index_all packet others h = (refl, others_no_index others h)

module _ (file : List ℕ) (joined : List FileSpan) (regions : List Region) (cuts : Cuts file regions) (news : List Segment) (inner : AllByRecursion IsInner news) where
  abbrev first : List Segment
  first = map segment (front file joined regions cuts)

  abbrev later : List Segment
  later = map segment (back file joined regions cuts)

  kept_segments : map segment (front file joined regions cuts ++ back file joined regions cuts) ≡ first ++ later
  kept_segments = map-append segment (front file joined regions cuts) (back file joined regions cuts)

  three : length (flat_map text (first ++ (news ++ later))) ≡ length (flat_map text first) + (length (flat_map text news) + length (flat_map text later))
  three = ap length (join-append first (news ++ later) ∙ ap (λ (l : List ℕ). flat_map text first ++ l) (join-append news later))
      ∙ length-append (flat_map text first) (flat_map text news ++ flat_map text later)
      ∙ ap (λ (n : ℕ). length (flat_map text first) + n) (length-append (flat_map text news) (flat_map text later))

  two : sum_by size_of (kept joined regions) ≡ length (flat_map text first) + length (flat_map text later)
  two = ap (sum_by size_of) (kept_there file joined regions cuts)
      ∙ sizes_are (front file joined regions cuts ++ back file joined regions cuts)
      ∙ ap (λ ss. length (flat_map text ss)) kept_segments
      ∙ ap length (join-append first later)
      ∙ length-append (flat_map text first) (flat_map text later)

  pub new_len : length (relocated_file file joined regions (flat_map text news)) ≡ 2 + sum_by size_of (kept joined regions) + length (flat_map text news)
  new_len = omega (arith, ap length (new_bytes file joined regions cuts news inner), three, two)

  old_after : pictures_len (kept joined regions) ≡ cond (any_in first) (after_in first + length (flat_map text later)) (after_in later)
  old_after = ap pictures_len (kept_there file joined regions cuts) ∙ after_is (front file joined regions cuts ++ back file joined regions cuts) ∙ ap after_in kept_segments ∙ after-append first later

  list_after : pictures_len (relocated_list joined regions news) ≡ after_in (first ++ (news ++ later))
  list_after = ap pictures_len (new_listed file joined regions cuts news inner ∙ placed_is 2 (first ++ (news ++ later))) ∙ after_is (located 2 (first ++ (news ++ later)))
      ∙ ap after_in (segments_of 2 (first ++ (news ++ later)))

  pub new_pictures : AllByRecursion NoIndex news → pictures_len (relocated_list joined regions news)
      ≡ pictures_len (kept joined regions) + cond (list_any (λ r. is_index r.kind) (before joined regions)) (length (flat_map text news)) 0
  new_pictures none =
      list_after
      ∙ after-append first (news ++ later)
      ∙ (λ i. cond (any_in first) (after_in first + more i) (skip i))
      ∙ by (any_in first)
      ∙ sym (λ i. old_after i + cond (before_any i) (length (flat_map text news)) 0)
    where
      more : length (flat_map text (news ++ later)) ≡ length (flat_map text news) + length (flat_map text later)
      more = ap length (join-append news later) ∙ length-append (flat_map text news) (flat_map text later)

      skip : after_in (news ++ later) ≡ after_in later
      skip = after-append news later ∙ ap (λ (b : Bool). cond b (after_in news + length (flat_map text later)) (after_in later)) (none_in news none)

      before_any : any_index (before joined regions) ≡ any_in first
      before_any = ap any_index (before_there file joined regions cuts) ∙ any_is (front file joined regions cuts)

      by : (b : Bool) → cond b (after_in first + (length (flat_map text news) + length (flat_map text later))) (after_in later)
          ≡ cond b (after_in first + length (flat_map text later)) (after_in later) + cond b (length (flat_map text news)) 0
      by true = omega arith
      by false = omega arith
