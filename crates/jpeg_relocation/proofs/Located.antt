-- Segments with the places where they stand.
use Rattle.std.proofs.Common.{◌≡◌, ℕ, zero, suc, ◌+◌, ◌-◌, Bool, true, false, cond, List, [], ◌∷◌, ◌++◌, length, map, take, drop, replicate, refl, sym, ap, ◌∙◌, subst, arith, append_assoc}
use Rattle.std.specs.Prelude.{flat_map, filter, sum_by}
use Rattle.std.specs.List.{AllByRecursion}
use Rattle.std.proofs.lemmas.List.{length-append, length-replicate, take_at, drop_at, drop-drop}
use Rattle.std.proofs.lemmas.List.Sums.{sum_by-cons}
use Rattle.jpeg_regions.specs.declared.marker.Class.{Class}
use Rattle.jpeg_regions.specs.declared.marker.Class.TheVariants.{Fill, Refused, Single, Last, Sized}
use Rattle.jpeg_regions.specs.declared.kind.RegionKind.{RegionKind}
use Rattle.jpeg_regions.specs.Markers.{class_of}
use Rattle.jpeg_regions.specs.Jpeg.{Segment, Region, text, span, region, region_by, placed}
use Rattle.jpeg_regions.specs.Exchanged.{moved}
use Rattle.jpeg_regions.proofs.Found.{length-text}
use Rattle.jpeg_extended.specs.FromDesk.{payload_at}
use Rattle.jpeg_relocation.specs.Relocation.{part_of}
use Rattle.jpeg_relocation.specs.Pictures.{size_of}
use Rattle.jpeg_relocation.specs.NewSegments.{stacked}

abbrev pub Spot : Type 0
Spot = ℕ × Segment

abbrev pub there : Spot → Region
there x = region x.0 x.1

abbrev pub segment : Spot → Segment
segment x = x.1

abbrev pub located : ℕ → List Segment → List Spot
located at [] = []
located at (s ∷ ss) = (at, s) ∷ located (at + length (text s)) ss

pub placed_is : (at : ℕ) (ss : List Segment) → placed at ss ≡ map there (located at ss)
placed_is at [] = refl
placed_is at (s ∷ ss) = ap (λ rs. region at s ∷ rs) (placed_is (at + length (text s)) ss)

pub segments_of : (at : ℕ) (ss : List Segment) → map segment (located at ss) ≡ ss
segments_of at [] = refl
segments_of at (s ∷ ss) = ap (λ rs. s ∷ rs) (segments_of (at + length (text s)) ss)

pub located-append : (at : ℕ) (ss ts : List Segment) → located at (ss ++ ts) ≡ located at ss ++ located (at + length (flat_map text ss)) ts
located-append at [] ts = ap (λ (k : ℕ). located k ts) (omega arith)
located-append at (s ∷ ss) ts = ap (λ xs. (at, s) ∷ xs) (located-append (at + length (text s)) ss ts
    ∙ ap (λ (k : ℕ). located (at + length (text s)) ss ++ located k ts) (omega (arith, length-append (text s) (flat_map text ss))))

-- Lists.

pub filter-map : {A B : Type 0} (p : B → Bool) (f : A → B) (xs : List A) → filter p (map f xs) ≡ map f (filter (λ x. p (f x)) xs)
filter-map p f [] = refl
filter-map p f (x ∷ xs) = by (p (f x)) (filter-map p f xs)
  where
    by : (b : Bool) → filter p (map f xs) ≡ map f (filter (λ y. p (f y)) xs) → cond b (f x ∷ filter p (map f xs)) (filter p (map f xs)) ≡ map f (cond b (x ∷ filter (λ y. p (f y)) xs) (filter (λ y. p (f y)) xs))
    by true h = ap (λ l. f x ∷ l) h
    by false h = h

pub take-map : {A B : Type 0} (f : A → B) (n : ℕ) (xs : List A) → take n (map f xs) ≡ map f (take n xs)
take-map f zero xs = refl
take-map f (suc n) [] = refl
take-map f (suc n) (x ∷ xs) = ap (λ l. f x ∷ l) (take-map f n xs)

pub drop-map : {A B : Type 0} (f : A → B) (n : ℕ) (xs : List A) → drop n (map f xs) ≡ map f (drop n xs)
drop-map f zero xs = refl
drop-map f (suc n) [] = refl
drop-map f (suc n) (x ∷ xs) = drop-map f n xs

pub all_filter : {A : Type 0} (P : A → Type 0) (p : A → Bool) (xs : List A) → AllByRecursion P xs → AllByRecursion P (filter p xs)
all_filter P p [] h = tt
all_filter P p (x ∷ xs) h = by (p x) (all_filter P p xs h.1)
  where
    by : (b : Bool) → AllByRecursion P (filter p xs) → AllByRecursion P (cond b (x ∷ filter p xs) (filter p xs))
    by true rest = (h.0, rest)
    by false rest = rest

pub all_take : {A : Type 0} (P : A → Type 0) (n : ℕ) (xs : List A) → AllByRecursion P xs → AllByRecursion P (take n xs)
all_take P zero xs h = tt
all_take P (suc n) [] h = tt
all_take P (suc n) (x ∷ xs) h = (h.0, all_take P n xs h.1)

pub all_drop : {A : Type 0} (P : A → Type 0) (n : ℕ) (xs : List A) → AllByRecursion P xs → AllByRecursion P (drop n xs)
all_drop P zero xs h = h
all_drop P (suc n) [] h = tt
all_drop P (suc n) (x ∷ xs) h = all_drop P n xs h.1

pub all_both : {A : Type 0} (P : A → Type 0) (xs ys : List A) → AllByRecursion P xs → AllByRecursion P ys → AllByRecursion P (xs ++ ys)
all_both P [] ys h k = k
all_both P (x ∷ xs) ys h k = (h.0, all_both P xs ys h.1 k)

pub all_first : {A : Type 0} (P : A → Type 0) (xs ys : List A) → AllByRecursion P (xs ++ ys) → AllByRecursion P xs
all_first P [] ys h = tt
all_first P (x ∷ xs) ys h = (h.0, all_first P xs ys h.1)

pub all_passed : {A : Type 0} (p : A → Bool) (xs : List A) → AllByRecursion (λ x. p x ≡ true) (filter p xs)
all_passed p [] = tt
all_passed p (x ∷ xs) = by (p x) refl (all_passed p xs)
  where
    by : (b : Bool) → p x ≡ b → AllByRecursion (λ y. p y ≡ true) (filter p xs) → AllByRecursion (λ y. p y ≡ true) (cond b (x ∷ filter p xs) (filter p xs))
    by true e rest = (e, rest)
    by false e rest = rest

pub all_weaken : {A : Type 0} (P Q : A → Type 0) → ((x : A) → P x → Q x) → (xs : List A) → AllByRecursion P xs → AllByRecursion Q xs
all_weaken P Q f [] h = tt
all_weaken P Q f (x ∷ xs) h = (f x h.0, all_weaken P Q f xs h.1)

pub all_map : {A B : Type 0} (P : B → Type 0) (f : A → B) (xs : List A) → AllByRecursion (λ x. P (f x)) xs → AllByRecursion P (map f xs)
all_map P f [] h = tt
all_map P f (x ∷ xs) h = (h.0, all_map P f xs h.1)

pub all_located : (P : Segment → Type 0) (at : ℕ) (ss : List Segment) → AllByRecursion P ss → AllByRecursion (λ (x : Spot). P x.1) (located at ss)
all_located P at [] h = tt
all_located P at (s ∷ ss) h = (h.0, all_located P (at + length (text s)) ss h.1)

-- A segment elsewhere.

abbrev region_as : RegionKind → ℕ → ℕ → ℕ → ℕ → Region
region_as kind a b c d = record { kind = kind; range = span a b; payload = span c d }

region_eq : (kind : RegionKind) (a b c d w x y z : ℕ) → a ≡ w → b ≡ x → c ≡ y → d ≡ z → region_as kind a b c d ≡ region_as kind w x y z
region_eq kind a b c d w x y z e f g h = (λ i. region_as kind (e i) (f i) (g i) (h i))

moved_by : (c : Class) (a at : ℕ) (s : Segment) → moved (region_by c a s).range.start at (region_by c a s) ≡ region_by c at s
moved_by Fill a at s = region_eq _ _ _ _ _ _ _ _ _ (omega arith) (omega arith) (omega arith) (omega arith)
moved_by Refused a at s = region_eq _ _ _ _ _ _ _ _ _ (omega arith) (omega arith) (omega arith) (omega arith)
moved_by Single a at s = region_eq _ _ _ _ _ _ _ _ _ (omega arith) (omega arith) (omega arith) (omega arith)
moved_by Last a at s = region_eq _ _ _ _ _ _ _ _ _ (omega arith) (omega arith) (omega arith) (omega arith)
moved_by Sized a at s = region_eq _ _ _ _ _ _ _ _ _ (omega arith) (omega arith) (omega arith) (omega arith)

range_by : (c : Class) (at : ℕ) (s : Segment) → (region_by c at s).range ≡ span at (at + length (text s))
range_by Fill at s = refl
range_by Refused at s = refl
range_by Single at s = refl
range_by Last at s = refl
range_by Sized at s = refl

pub range_is : (x : Spot) → (there x).range ≡ span x.0 (x.0 + length (text x.1))
range_is x = range_by (class_of x.1.marker) x.0 x.1

pub size_is : (x : Spot) → size_of (there x) ≡ length (text x.1)
size_is x = (λ i. (range_is x i).end - (range_is x i).start) ∙ omega arith

pub sizes_are : (xs : List Spot) → sum_by size_of (map there xs) ≡ length (flat_map text (map segment xs))
sizes_are [] = refl
sizes_are (x ∷ xs) = omega (arith, sum_by-cons size_of (there x) (map there xs), size_is x, sizes_are xs, length-append (text x.1) (flat_map text (map segment xs)))

pub stacked_is : (at : ℕ) (xs : List Spot) → stacked at (map there xs) ≡ placed at (map segment xs)
stacked_is at [] = refl
stacked_is at (x ∷ xs) =
    ap (λ (k : ℕ). moved (there x).range.start at (there x) ∷ stacked (at + k) (map there xs)) (size_is x)
    ∙ (λ i. moved_by (class_of x.1.marker) x.0 at x.1 i ∷ stacked_is (at + length (text x.1)) xs i)

-- Bytes.

-- the file has the segment there
pub record Has (file : List ℕ) (x : Spot) : Type 0 where
  pub rest : List ℕ
  pub is : drop x.0 file ≡ text x.1 ++ rest

pub has_all : (front back : List ℕ) (ss : List Segment) (at : ℕ) → length front ≡ at → AllByRecursion (Has (front ++ (flat_map text ss ++ back))) (located at ss)
has_all front back [] at h = tt
has_all front back (s ∷ ss) at h =
    let whole : front ++ ((text s ++ flat_map text ss) ++ back) ≡ (front ++ text s) ++ (flat_map text ss ++ back) =
    ap (λ (l : List ℕ). front ++ l) (append_assoc (text s) (flat_map text ss) back) ∙ sym (append_assoc front (text s) (flat_map text ss ++ back)) in (
      record {
        rest = flat_map text ss ++ back;
        is = drop_at front ((text s ++ flat_map text ss) ++ back) at h ∙ append_assoc (text s) (flat_map text ss) back;
      },
      subst (λ (l : List ℕ). AllByRecursion (Has l) (located (at + length (text s)) ss)) (sym whole)
          (has_all (front ++ text s) back ss (at + length (text s)) (omega (arith, h, length-append front (text s)))),
    )

pub part_is : (file : List ℕ) (x : Spot) → Has file x → part_of file (there x) ≡ text x.1
part_is file x h =
    let size : x.0 + length (text x.1) - x.0 ≡ length (text x.1) = omega arith in
    ap (payload_at file) (range_is x)
    ∙ (λ i. take (size i) (h.is i))
    ∙ take_at (text x.1) h.rest (length (text x.1)) refl

pub parts_are : (file : List ℕ) (xs : List Spot) → AllByRecursion (Has file) xs → map (part_of file) (map there xs) ≡ map text (map segment xs)
parts_are file [] h = refl
parts_are file (x ∷ xs) h = (λ i. part_is file x h.0 i ∷ parts_are file xs h.1 i)

pub bytes_are : (file : List ℕ) (xs : List Spot) → AllByRecursion (Has file) xs → flat_map (part_of file) (map there xs) ≡ flat_map text (map segment xs)
bytes_are file [] h = refl
bytes_are file (x ∷ xs) h = (λ i. part_is file x h.0 i ++ bytes_are file xs h.1 i)

-- The kind and the payload, wherever a segment stands.

abbrev pub kind_in : Segment → RegionKind
kind_in s = (region 0 s).kind

kind_by : (c : Class) (at : ℕ) (s : Segment) → (region_by c at s).kind ≡ (region_by c 0 s).kind
kind_by Fill at s = refl
kind_by Refused at s = refl
kind_by Single at s = refl
kind_by Last at s = refl
kind_by Sized at s = refl

pub kind_is : (x : Spot) → (there x).kind ≡ kind_in x.1
kind_is x = kind_by (class_of x.1.marker) x.0 x.1

abbrev pub payload_by : Class → Segment → List ℕ
payload_by Sized s = drop 2 s.body
payload_by Fill s = []
payload_by Refused s = []
payload_by Single s = []
payload_by Last s = []

abbrev pub payload_in : Segment → List ℕ
payload_in s = payload_by (class_of s.marker) s

none_between : (file : List ℕ) (a : ℕ) → payload_at file (span a a) ≡ []
none_between file a = let none : a - a ≡ 0 = omega arith in ap (λ (n : ℕ). take n (drop a file)) none

sized_payload : (file : List ℕ) (at fill marker : ℕ) (body rest : List ℕ) → drop at file ≡ text (record { fill = fill; marker = marker; body = body }) ++ rest
    → payload_at file (span (at + fill + 3) (at + length (text (record { fill = fill; marker = marker; body = body })))) ≡ drop 2 body
sized_payload file at fill marker [] rest h =
    let none : at + length (text (record { fill = fill; marker = marker; body = [] })) - (at + fill + 3) ≡ 0 = omega (arith, length-text (record { fill = fill; marker = marker; body = [] })) in
    ap (λ (n : ℕ). take n (drop (at + fill + 3) file)) none
sized_payload file at fill marker (c ∷ []) rest h =
    let none : at + length (text (record { fill = fill; marker = marker; body = c ∷ [] })) - (at + fill + 3) ≡ 0 = omega (arith, length-text (record { fill = fill; marker = marker; body = c ∷ [] })) in
    ap (λ (n : ℕ). take n (drop (at + fill + 3) file)) none
sized_payload file at fill marker (c ∷ d ∷ p) rest h =
    let size : at + length (text (record { fill = fill; marker = marker; body = c ∷ d ∷ p })) - (at + fill + 3) ≡ length p = omega (arith, length-text (record { fill = fill; marker = marker; body = c ∷ d ∷ p })) in
    let front = replicate fill 0xFF ++ (marker ∷ c ∷ d ∷ []) in
    let front_size : length front ≡ fill + 3 = omega (arith, length-append (replicate fill 0xFF) (marker ∷ c ∷ d ∷ []), length-replicate {A = ℕ} fill 0xFF) in
    let whole : (replicate fill 0xFF ++ (marker ∷ c ∷ d ∷ p)) ++ rest ≡ front ++ (p ++ rest) =
    append_assoc (replicate fill 0xFF) (marker ∷ c ∷ d ∷ p) rest ∙ sym (append_assoc (replicate fill 0xFF) (marker ∷ c ∷ d ∷ []) (p ++ rest)) in
    let place : at + (fill + 3) ≡ at + fill + 3 = omega arith in
    let behind : drop (at + fill + 3) file ≡ p ++ rest =
    ap (λ (n : ℕ). drop n file) (sym place) ∙ sym (drop-drop (fill + 3) at file) ∙ ap (drop (fill + 3)) (h ∙ whole) ∙ drop_at front (p ++ rest) (fill + 3) front_size in
    (λ i. take (size i) (behind i)) ∙ take_at p rest (length p) refl

payload_one : (c : Class) (file : List ℕ) (x : Spot) → Has file x → payload_at file (region_by c x.0 x.1).payload ≡ payload_by c x.1
payload_one Sized file x h = sized_payload file x.0 x.1.fill x.1.marker x.1.body h.rest h.is
payload_one Fill file x h = none_between file (x.0 + x.1.fill + 1)
payload_one Refused file x h = none_between file (x.0 + x.1.fill + 1)
payload_one Single file x h = none_between file (x.0 + x.1.fill + 1)
payload_one Last file x h = none_between file (x.0 + x.1.fill + 1)

pub payload_is : (file : List ℕ) (x : Spot) → Has file x → payload_at file (there x).payload ≡ payload_in x.1
payload_is file x h = payload_one (class_of x.1.marker) file x h

pub all_second : {A : Type 0} (P : A → Type 0) (xs ys : List A) → AllByRecursion P (xs ++ ys) → AllByRecursion P ys
all_second P [] ys h = h
all_second P (x ∷ xs) ys h = all_second P xs ys h.1
