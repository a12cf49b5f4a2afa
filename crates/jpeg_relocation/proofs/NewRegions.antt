-- The regions of the new file by their kinds and payloads.
use Rattle.std.proofs.Common.{◌≡◌, ℕ, ◌+◌, ◌<◌, ◌≤◌, ◌&&◌, ◌||◌, nat_eq, ne_eqb, Bool, true, false, cond, List, [], ◌∷◌, ◌++◌, length, map, refl, sym, ap, ◌∙◌, subst, arith, append_assoc}
use Rattle.std.specs.Prelude.{flat_map, filter}
use Rattle.std.specs.List.{AllByRecursion, list_any}
use Rattle.std.proofs.lemmas.List.{length-append}
use Rattle.std.proofs.lemmas.List.Folds.{list_any-append}
use Rattle.xmp_base.specs.declared.file_span.FileSpan.{FileSpan}
use Rattle.jpeg_regions.specs.declared.marker.Class.{Class}
use Rattle.jpeg_regions.specs.declared.marker.Class.TheVariants.{Fill, Refused, Single, Last, Sized}
use Rattle.jpeg_regions.specs.Markers.{class_of}
use Rattle.jpeg_regions.specs.Jpeg.{Segment, Region, IsInner, HasLength, HasBody, text, region, region_by, placed, mains, is_main, is_extension, portion_payloads}
use Rattle.jpeg_regions.proofs.Found.{length-text}
use Rattle.jpeg_extended.specs.Portions.{is_named, portion_of}
use Rattle.jpeg_extended.specs.FromDesk.{is_portion_at, named_at, portions_at}
use Rattle.jpeg_relocation.specs.Relocation.{same_span}
use Rattle.jpeg_relocation.proofs.Merged.{same_self}
use Rattle.jpeg_relocation.proofs.Located.{Spot, there, segment, located, Has, kind_in, kind_is, payload_in, payload_is}

-- Filters.

pub filter_all : {A : Type 0} (p : A → Bool) (xs : List A) → AllByRecursion (λ x. p x ≡ true) xs → filter p xs ≡ xs
filter_all p [] h = refl
filter_all p (x ∷ xs) h = (λ i. cond (h.0 i) (x ∷ filter_all p xs h.1 i) (filter_all p xs h.1 i))

pub filter_none : {A : Type 0} (p : A → Bool) (xs : List A) → AllByRecursion (λ x. p x ≡ false) xs → filter p xs ≡ []
filter_none p [] h = refl
filter_none p (x ∷ xs) h = (λ i. cond (h.0 i) (x ∷ filter_none p xs h.1 i) (filter_none p xs h.1 i))

pub none_filtered : {A : Type 0} (p : A → Bool) (xs : List A) → filter p xs ≡ [] → AllByRecursion (λ x. p x ≡ false) xs
none_filtered p [] h = tt
none_filtered p (x ∷ xs) h = by (p x) refl (none_filtered p xs) h
  where
    by : (b : Bool) → p x ≡ b → (filter p xs ≡ [] → AllByRecursion (λ y. p y ≡ false) xs) → cond b (x ∷ filter p xs) (filter p xs) ≡ [] → AllByRecursion (λ y. p y ≡ false) (x ∷ xs)
    by true e rest h = absurd (cc h)
    by false e rest h = (e, rest h)

-- Main regions, by segments.

abbrev pub NotMain : Segment → Type 0
NotMain s = is_main (kind_in s) ≡ false

pub kind_main : (x : Spot) (b : Bool) → is_main (kind_in x.1) ≡ b → is_main (there x).kind ≡ b
kind_main x b h = ap is_main (kind_is x) ∙ h

pub no_mains : (at : ℕ) (ss : List Segment) → AllByRecursion NotMain ss → mains (placed at ss) ≡ []
no_mains at [] h = refl
no_mains at (s ∷ ss) h = (λ i. cond (kind_main (at, s) false h.0 i) (region at s ∷ no_mains (at + length (text s)) ss h.1 i) (no_mains (at + length (text s)) ss h.1 i))

-- Where payloads stand.

end_by : (c : Class) (at : ℕ) (s : Segment) → (region_by c at s).payload.end ≤ at + length (text s)
end_by Fill at s = omega (arith, length-text s)
end_by Refused at s = omega (arith, length-text s)
end_by Single at s = omega (arith, length-text s)
end_by Last at s = omega (arith, length-text s)
end_by Sized at s = omega arith

past_by : (c : Class) (at : ℕ) (s : Segment) → at < (region_by c at s).payload.end
past_by Fill at s = omega arith
past_by Refused at s = omega arith
past_by Single at s = omega arith
past_by Last at s = omega arith
past_by Sized at s = omega (arith, length-text s)

start_by : (c : Class) (at : ℕ) (s : Segment) → at < (region_by c at s).payload.start
start_by Fill at s = omega arith
start_by Refused at s = omega arith
start_by Single at s = omega arith
start_by Last at s = omega arith
start_by Sized at s = omega arith

body_two : (body : List ℕ) → HasLength body → 2 ≤ length body
body_two [] h = absurd h
body_two (c ∷ []) h = absurd h
body_two (c ∷ d ∷ p) h = omega arith

first_by : (c : Class) (at : ℕ) (s : Segment) → HasBody c s.body → (region_by c at s).payload.start ≤ at + length (text s)
first_by Fill at s h = absurd h
first_by Refused at s h = absurd h
first_by Last at s h = absurd h
first_by Single at s h = omega (arith, length-text s)
first_by Sized at s h = omega (arith, length-text s, body_two s.body h)

pub ends_before : (at : ℕ) (ss : List Segment) (end : ℕ) → end ≡ at + length (flat_map text ss) → AllByRecursion (λ (x : Spot). (there x).payload.end ≤ end) (located at ss)
ends_before at [] end h = tt
ends_before at (s ∷ ss) end h = (
  omega (arith, h, end_by (class_of s.marker) at s, length-append (text s) (flat_map text ss)),
  ends_before (at + length (text s)) ss end (omega (arith, h, length-append (text s) (flat_map text ss))),
)

pub starts_after : (place at : ℕ) (ss : List Segment) → place ≤ at → AllByRecursion (λ (x : Spot). place < (there x).payload.start) (located at ss)
starts_after place at [] h = tt
starts_after place at (s ∷ ss) h = (omega (arith, h, start_by (class_of s.marker) at s), starts_after place (at + length (text s)) ss (omega (arith, h)))

other_end : (a b : FileSpan) → a.end < b.end → same_span a b ≡ false
other_end a b h = let ne = ne_eqb a.end b.end (λ e. omega (arith, e, h)) in and_false (nat_eq a.start b.start) (nat_eq a.end b.end) ne
  where
    and_false : (p q : Bool) → q ≡ false → (p && q) ≡ false
    and_false true q e = e
    and_false false q e = refl

other_start : (a b : FileSpan) → b.start < a.start → same_span a b ≡ false
other_start a b h = let ne = ne_eqb a.start b.start (λ e. omega (arith, e, h)) in ap (λ (p : Bool). p && nat_eq a.end b.end) ne

any_payload : (a : FileSpan) (r : Region) (rs : List Region) → same_span a r.payload ≡ false → list_any (same_span a) (portion_payloads rs) ≡ false
    → list_any (same_span a) (portion_payloads (r ∷ rs)) ≡ false
any_payload a r rs h rest = by (is_extension r.kind)
  where
    by : (b : Bool) → list_any (same_span a) (map (λ q. q.payload) (cond b (r ∷ filter (λ q. is_extension q.kind) rs) (filter (λ q. is_extension q.kind) rs))) ≡ false
    by true = (λ i. h i || rest i)
    by false = rest

-- what ends before segments, or begins after them, is no payload of theirs
pub none_later : (a : FileSpan) (at : ℕ) (ss : List Segment) → a.end ≤ at → list_any (same_span a) (portion_payloads (placed at ss)) ≡ false
none_later a at [] h = refl
none_later a at (s ∷ ss) h =
    any_payload a (region at s) (placed (at + length (text s)) ss) (other_end a (region at s).payload (omega (arith, h, past_by (class_of s.marker) at s)))
    (none_later a (at + length (text s)) ss (omega (arith, h)))

pub none_earlier : (a : FileSpan) (at : ℕ) (ss : List Segment) → AllByRecursion IsInner ss → at + length (flat_map text ss) < a.start
    → list_any (same_span a) (portion_payloads (placed at ss)) ≡ false
none_earlier a at [] inner h = refl
none_earlier a at (s ∷ ss) inner h =
    let size = length-append (text s) (flat_map text ss) in
    any_payload a (region at s) (placed (at + length (text s)) ss)
    (other_start a (region at s).payload (omega (arith, h, size, first_by (class_of s.marker) at s inner.0.body)))
    (none_earlier a (at + length (text s)) ss inner.1 (omega (arith, h, size)))

abbrev extensions : List Spot → List Region
extensions xs = filter (λ (r : Region). is_extension r.kind) (map there xs)

-- every portion's payload is among them
pub all_among : (before : List FileSpan) (xs : List Spot)
    → AllByRecursion (λ (x : Spot). is_extension (there x).kind ≡ true → list_any (same_span (there x).payload) (before ++ portion_payloads (map there xs)) ≡ true) xs
all_among before [] = tt
all_among before (x ∷ xs) = (
  by_first (is_extension (there x).kind) refl,
  by_rest (is_extension (there x).kind) (all_among before xs) (all_among (before ++ (there x).payload ∷ []) xs),
)
  where
    or_true : (a b : Bool) → b ≡ true → (a || b) ≡ true
    or_true true b e = refl
    or_true false b e = e

    by_first : (b : Bool) → is_extension (there x).kind ≡ b → b ≡ true
        → list_any (same_span (there x).payload) (before ++ map (λ r. r.payload) (cond b (there x ∷ extensions xs) (extensions xs))) ≡ true
    by_first true e h =
        list_any-append (same_span (there x).payload) before ((there x).payload ∷ map (λ r. r.payload) (extensions xs))
        ∙ or_true (list_any (same_span (there x).payload) before) _ (ap (λ (b : Bool). b || list_any (same_span (there x).payload) (map (λ r. r.payload) (extensions xs))) (same_self (there x).payload))
    by_first false e h = absurd (cc h)

    by_rest : (b : Bool)
        → AllByRecursion (λ (y : Spot). is_extension (there y).kind ≡ true → list_any (same_span (there y).payload) (before ++ map (λ r. r.payload) (extensions xs)) ≡ true) xs
        → AllByRecursion (λ (y : Spot). is_extension (there y).kind ≡ true → list_any (same_span (there y).payload) ((before ++ (there x).payload ∷ []) ++ map (λ r. r.payload) (extensions xs)) ≡ true) xs
        → AllByRecursion (λ (y : Spot). is_extension (there y).kind ≡ true → list_any (same_span (there y).payload) (before ++ map (λ r. r.payload) (cond b (there x ∷ extensions xs) (extensions xs))) ≡ true) xs
    by_rest true same more =
        subst (λ l. AllByRecursion (λ (y : Spot). is_extension (there y).kind ≡ true → list_any (same_span (there y).payload) l ≡ true) xs)
        (append_assoc before ((there x).payload ∷ []) (map (λ r. r.payload) (extensions xs))) more
    by_rest false same more = same

-- The portions of a name.

-- whether a segment is a portion of a name, wherever it stands
abbrev pub bears : List ℕ → Segment → Bool
bears name s = is_extension (kind_in s) && is_named name (payload_in s) (length (payload_in s))

abbrev bearing : List ℕ → List Spot → List Spot
bearing name xs = filter (λ (y : Spot). bears name y.1) xs

picked : (x : Spot) (others : List Spot) (b : Bool)
    → cond b ((there x).payload ∷ map (λ y. (there y).payload) others) (map (λ y. (there y).payload) others) ≡ map (λ y. (there y).payload) (cond b (x ∷ others) others)
picked x others true = refl
picked x others false = refl

pub named_are : (file name : List ℕ) (xs : List Spot) → AllByRecursion (Has file) xs
    → named_at file name (portion_payloads (map there xs)) ≡ map (λ x. (there x).payload) (filter (λ (x : Spot). bears name x.1) xs)
named_are file name [] h = refl
named_are file name (x ∷ xs) h =
    (λ i. filter (is_portion_at file name) (map (λ r. r.payload) (cond (is_extension (kind_is x i)) (there x ∷ extensions xs) (extensions xs))))
    ∙ by (is_extension (kind_in x.1)) (is_named name (payload_in x.1) (length (payload_in x.1))) named (named_are file name xs h.1)
  where
    named : is_portion_at file name (there x).payload ≡ is_named name (payload_in x.1) (length (payload_in x.1))
    named = ap (λ (l : List ℕ). is_named name l (length l)) (payload_is file x h.0)

    by : (a b : Bool) → is_portion_at file name (there x).payload ≡ b → filter (is_portion_at file name) (map (λ r. r.payload) (extensions xs)) ≡ map (λ y. (there y).payload) (bearing name xs)
        → filter (is_portion_at file name) (map (λ r. r.payload) (cond a (there x ∷ extensions xs) (extensions xs))) ≡ map (λ y. (there y).payload) (cond (a && b) (x ∷ bearing name xs) (bearing name xs))
    by false b e rest = rest
    by true b e rest =
        (λ i. cond (e i) ((there x).payload ∷ rest i) (rest i)) ∙ picked x (bearing name xs) b

-- all portions among segments bear the name
pub named_all : (name : List ℕ) (xs : List Spot) → AllByRecursion (λ (x : Spot). bears name x.1 ≡ is_extension (kind_in x.1)) xs
    → map (λ x. (there x).payload) (filter (λ (x : Spot). bears name x.1) xs) ≡ portion_payloads (map there xs)
named_all name [] h = refl
named_all name (x ∷ xs) h =
    (λ i. map (λ y. (there y).payload) (cond ((h.0 ∙ sym (ap is_extension (kind_is x))) i) (x ∷ bearing name xs) (bearing name xs))) ∙ by (is_extension (there x).kind) (named_all name xs h.1)
  where
    by : (b : Bool) → map (λ y. (there y).payload) (bearing name xs) ≡ map (λ r. r.payload) (filter (λ r. is_extension r.kind) (map there xs))
        → map (λ y. (there y).payload) (cond b (x ∷ bearing name xs) (bearing name xs))
        ≡ map (λ r. r.payload) (cond b (there x ∷ filter (λ r. is_extension r.kind) (map there xs)) (filter (λ r. is_extension r.kind) (map there xs)))
    by true rest = ap (λ l. (there x).payload ∷ l) rest
    by false rest = rest

-- what the portions at places say
pub portions_say : (file name : List ℕ) (xs : List Spot) → AllByRecursion (Has file) xs
    → portions_at file name (map (λ x. (there x).payload) xs) ≡ flat_map (portion_of name) (map payload_in (map segment xs))
portions_say file name [] h = refl
portions_say file name (x ∷ xs) h = (λ i. portion_of name (payload_is file x h.0 i) ++ portions_say file name xs h.1 i)
