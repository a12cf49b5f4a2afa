-- A packet that is exchanged in its place leaves the list of regions as it is.
use Rattle.std.proofs.Common.{◌≡◌, ℕ, zero, suc, ◌+◌, ◌-◌, ◌*◌, ◌<◌, ◌≤◌, ◌&&◌, ◌==◌, nat_eq, Bool, true, false, cond, List, [], ◌∷◌, ◌++◌, length, take, drop, replicate, refl, sym, ap, subst, ◌∙◌, arith, append_assoc, lit≤, Some}
use Rattle.std.specs.Prelude.{flat_map, slice_get}
use Rattle.std.specs.List.{AllByRecursion, starts_with}
use Rattle.std.proofs.Math.Seq.{take-append-add}
use Rattle.std.proofs.lemmas.List.{length-append, length-replicate, length-take-le, length-drop, take_at, drop_at, drop-drop, take-append-drop}
use Rattle.xmp_base.specs.Device.{put_at}
use Rattle.jpeg_regions.specs.declared.marker.Class.{Class}
use Rattle.jpeg_regions.specs.declared.marker.Class.TheVariants.{Fill, Refused, Single, Last, Sized}
use Rattle.jpeg_regions.specs.declared.kind.RegionKind.{RegionKind}
use Rattle.jpeg_regions.specs.declared.kind.RegionKind.TheVariants.{Main, Portion, Exif, Resources, Mpf, App0, Other}
use Rattle.jpeg_regions.specs.Markers.{class_of}
use Rattle.jpeg_regions.specs.Kinds.{kind_of, first_kind_of, is_portion, is_exif, packet_signature, mpf_signature, resources_signature}
use Rattle.jpeg_regions.specs.Jpeg.{Segment, Region, text, span, region, region_by, placed, HasBody, HasLength, IsInner, IsTail, Jpeg, is_main}
use Rattle.jpeg_regions.proofs.Fronts.{begins-take}

-- Bytes in the middle of a list.

put_mid : (x y rest new : List ℕ) → length y ≡ length new → put_at (x ++ (y ++ rest)) (length x) new ≡ x ++ (new ++ rest)
put_mid x y rest new same =
    let after : drop (length x + length new) (x ++ (y ++ rest)) ≡ rest =
    sym (drop-drop (length new) (length x) (x ++ (y ++ rest))) ∙ ap (drop (length new)) (drop_at x (y ++ rest) (length x) refl) ∙ drop_at y rest (length new) same in
    (λ i. take_at x (y ++ rest) (length x) refl i ++ new ++ after i) ∙ append_assoc x new rest

put_past : (x rest new : List ℕ) (k : ℕ) → put_at (x ++ rest) (length x + k) new ≡ x ++ put_at rest k new
put_past x rest new k =
    let after : drop (length x + k + length new) (x ++ rest) ≡ drop (k + length new) rest =
    ap (λ (n : ℕ). drop n (x ++ rest)) (omega arith) ∙ sym (drop-drop (k + length new) (length x) (x ++ rest)) ∙ ap (drop (k + length new)) (drop_at x rest (length x) refl) in
    (λ i. take-append-add x rest k i ++ new ++ after i)
    ∙ ap (λ (l : List ℕ). l ++ drop (k + length new) rest) (append_assoc x (take k rest) new)
    ∙ append_assoc x (take k rest ++ new) (drop (k + length new) rest)

-- The kind of a main segment is told by the first 29 bytes of its payload.

first_main : (a b c : Bool) → is_main (cond a Main (cond b Portion (cond c Exif Other))) ≡ true → a ≡ true
first_main true b c h = refl
first_main false true c h = absurd (cc h)
first_main false false true h = absurd (cc h)
first_main false false false h = absurd (cc h)

main_by : (a b c d x y : Bool) (p q : List ℕ) → (is_main (first_kind_of p) ≡ true → first_kind_of q ≡ Main)
    → is_main (cond a App0 (cond b (first_kind_of p) (cond c Mpf (cond d Resources Other)))) ≡ true
    → cond a App0 (cond b (first_kind_of q) (cond x Mpf (cond y Resources Other))) ≡ Main
main_by true b c d x y p q same h = absurd (cc h)
main_by false true c d x y p q same h = same h
main_by false false true d x y p q same h = absurd (cc h)
main_by false false false true x y p q same h = absurd (cc h)
main_by false false false false x y p q same h = absurd (cc h)

first_same : (p q : List ℕ) → take 29 q ≡ take 29 p → is_main (first_kind_of p) ≡ true → first_kind_of q ≡ Main
first_same p q same h =
    let signed : starts_with nat_eq p packet_signature ≡ true = first_main (starts_with nat_eq p packet_signature) (is_portion p) (is_exif p) h in
    let again : starts_with nat_eq q packet_signature ≡ true =
    sym (begins-take 29 q packet_signature (lit≤ tt)) ∙ ap (λ (l : List ℕ). starts_with nat_eq l packet_signature) same ∙ begins-take 29 p packet_signature (lit≤ tt) ∙ signed in
    ap (λ (b : Bool). cond b Main (cond (is_portion q) Portion (cond (is_exif q) Exif Other))) again

pub main_same : (marker : ℕ) (p q : List ℕ) → take 29 q ≡ take 29 p → is_main (kind_of marker p) ≡ true → kind_of marker q ≡ Main
main_same marker p q same h =
    main_by (marker == 0xE0) (marker == 0xE1) (marker == 0xE2 && starts_with nat_eq p mpf_signature) (marker == 0xED && starts_with nat_eq p resources_signature)
    (marker == 0xE2 && starts_with nat_eq q mpf_signature) (marker == 0xED && starts_with nat_eq q resources_signature) p q (first_same p q same) h

main_is : (k : RegionKind) → is_main k ≡ true → k ≡ Main
main_is Main h = refl
main_is k h = absurd (cc h)

sized_main : (c : Class) (at : ℕ) (s : Segment) → is_main (region_by c at s).kind ≡ true → c ≡ Sized
sized_main Sized at s h = refl
sized_main Fill at s h = absurd (cc h)
sized_main Refused at s h = absurd (cc h)
sized_main Single at s h = absurd (cc h)
sized_main Last at s h = absurd (cc h)

-- One segment.

-- a segment in whose place another one stands
record Other_one (at : ℕ) (s : Segment) (place : ℕ) (new : List ℕ) : Type 0 where
  segment : Segment
  inner : IsInner segment
  size : length (text segment) ≡ length (text s)
  same : region at segment ≡ region at s
  start : at ≤ place
  bytes : (rest : List ℕ) → text segment ++ rest ≡ put_at (text s ++ rest) (place - at) new

module _ (at fill marker high low : ℕ) (payload new : List ℕ) (class : class_of marker ≡ Sized) (filled : 0 < fill) (counted : 256 * high + low ≡ length payload + 2)
    (main : is_main (kind_of marker payload) ≡ true) (long : 29 + length new ≡ length payload) where
  abbrev old : Segment
  old = record { fill = fill; marker = marker; body = high ∷ low ∷ payload }

  abbrev next : Segment
  next = record { fill = fill; marker = marker; body = high ∷ low ∷ (take 29 payload ++ new) }

  abbrev front : List ℕ
  front = replicate fill 0xFF ++ (marker ∷ high ∷ low ∷ take 29 payload)

  signed : length (take 29 payload) ≡ 29
  signed = length-take-le 29 payload (omega (arith, long))

  front_size : length front ≡ fill + 32
  front_size = omega (arith, length-append (replicate fill 0xFF) (marker ∷ high ∷ low ∷ take 29 payload), length-replicate {A = ℕ} fill 0xFF, signed)

  last_size : length (drop 29 payload) ≡ length new
  last_size = omega (arith, length-drop 29 payload, long)

  payload_size : length (take 29 payload ++ new) ≡ length payload
  payload_size = omega (arith, length-append (take 29 payload) new, signed, long)

  old_text : text old ≡ front ++ drop 29 payload
  old_text = ap (λ (l : List ℕ). replicate fill 0xFF ++ (marker ∷ high ∷ low ∷ l)) (sym (take-append-drop 29 payload))
      ∙ sym (append_assoc (replicate fill 0xFF) (marker ∷ high ∷ low ∷ take 29 payload) (drop 29 payload))

  next_text : text next ≡ front ++ new
  next_text = sym (append_assoc (replicate fill 0xFF) (marker ∷ high ∷ low ∷ take 29 payload) new)

  text_size : length (text next) ≡ length (text old)
  text_size = ap length next_text ∙ length-append front new ∙ omega (arith, last_size) ∙ sym (length-append front (drop 29 payload)) ∙ sym (ap length old_text)

  kinds : kind_of marker (take 29 payload ++ new) ≡ kind_of marker payload
  kinds = main_same marker payload (take 29 payload ++ new) (take_at (take 29 payload) new 29 signed) main ∙ sym (main_is (kind_of marker payload) main)

  sized_same : region_by Sized at next ≡ region_by Sized at old
  sized_same = λ i. record { kind = kinds i; range = span at (at + text_size i); payload = span (at + fill + 3) (at + text_size i) }

  put_here : (rest : List ℕ) → text next ++ rest ≡ put_at (text old ++ rest) (at + fill + 3 + 29 - at) new
  put_here rest =
      ap (λ (l : List ℕ). l ++ rest) next_text ∙ append_assoc front new rest
      ∙ sym (put_mid front (drop 29 payload) rest new last_size)
      ∙ ap (λ (n : ℕ). put_at (front ++ (drop 29 payload ++ rest)) n new) (front_size ∙ omega arith)
      ∙ ap (λ (l : List ℕ). put_at l (at + fill + 3 + 29 - at) new) (sym (append_assoc front (drop 29 payload) rest) ∙ ap (λ (l : List ℕ). l ++ rest) (sym old_text))

  other_one : Other_one at old (at + fill + 3 + 29) new
  other_one = record {
    segment = next;
    inner = record { filled = filled; body = subst (λ (c : Class). HasBody c (high ∷ low ∷ (take 29 payload ++ new))) (sym class) (counted ∙ ap (λ (n : ℕ). n + 2) (sym payload_size)) };
    size = text_size;
    same = ap (λ (c : Class). region_by c at next) class ∙ sized_same ∙ sym (ap (λ (c : Class). region_by c at old) class);
    start = omega arith;
    bytes = put_here;
  }

one_body : (at fill marker : ℕ) (body new : List ℕ) → class_of marker ≡ Sized → 0 < fill → HasLength body → is_main (kind_of marker (drop 2 body)) ≡ true
    → at + fill + 3 + 29 + length new ≡ at + length (text (record { fill = fill; marker = marker; body = body }))
    → Other_one at (record { fill = fill; marker = marker; body = body }) (at + fill + 3 + 29) new
one_body at fill marker [] new class filled length_is main fits = absurd length_is
one_body at fill marker (high ∷ []) new class filled length_is main fits = absurd length_is
one_body at fill marker (high ∷ low ∷ payload) new class filled length_is main fits =
    other_one at fill marker high low payload new class filled length_is main
    (omega (arith, fits, length-append (replicate fill 0xFF) (marker ∷ high ∷ low ∷ payload), length-replicate {A = ℕ} fill 0xFF))

one_segment : (at : ℕ) (s : Segment) (new : List ℕ) → IsInner s → is_main (region at s).kind ≡ true → (region at s).payload.start + 29 + length new ≡ (region at s).payload.end
    → Other_one at s ((region at s).payload.start + 29) new
one_segment at s new inner main fits =
    let class : class_of s.marker ≡ Sized = sized_main (class_of s.marker) at s main in
    let is : region at s ≡ region_by Sized at s = ap (λ (c : Class). region_by c at s) class in
    subst (λ (r : Region). Other_one at s (r.payload.start + 29) new) (sym is)
    (one_body at s.fill s.marker s.body new class inner.filled (subst (λ (c : Class). HasBody c s.body) class inner.body)
    (subst (λ (r : Region). is_main r.kind ≡ true) is main)
    (subst (λ (r : Region). r.payload.start + 29 + length new ≡ r.payload.end) is fits))

-- All segments.

record Others (at : ℕ) (ss : List Segment) (tail : Segment) (place : ℕ) (new : List ℕ) : Type 0 where
  segments : List Segment
  inner : AllByRecursion IsInner segments
  start : at ≤ place
  bytes : flat_map text (segments ++ tail ∷ []) ≡ put_at (flat_map text (ss ++ tail ∷ [])) (place - at) new
  listed : placed at (segments ++ tail ∷ []) ≡ placed at (ss ++ tail ∷ [])

tail_no_main : (c : Class) (at : ℕ) (s : Segment) → c ≡ Last → is_main (region_by c at s).kind ≡ true → ⊥
tail_no_main Last at s is h = cc h
tail_no_main c at s is h = let same : is_main (region_by Last at s).kind ≡ true = subst (λ (d : Class). is_main (region_by d at s).kind ≡ true) is h in cc same

same_region : (a r : Region) → Some a ≡ Some r → a ≡ r
same_region a r e = cc e

others : (at : ℕ) (ss : List Segment) (tail : Segment) (i : ℕ) (r : Region) (new : List ℕ) → AllByRecursion IsInner ss → IsTail tail → slice_get (placed at (ss ++ tail ∷ [])) i ≡ Some r
    → is_main r.kind ≡ true → r.payload.start + 29 + length new ≡ r.payload.end → Others at ss tail (r.payload.start + 29) new
others at [] tail zero r new inner last there main fits =
    absurd (tail_no_main (class_of tail.marker) at tail last.last (ap (λ (x : Region). is_main x.kind) (same_region (region at tail) r there) ∙ main))
others at [] tail (suc i) r new inner last there main fits = absurd (cc there)
others at (s ∷ ss) tail zero r new inner last there main fits =
    let is : region at s ≡ r = same_region (region at s) r there in
    let one = subst (λ (x : Region). Other_one at s (x.payload.start + 29) new) is
    (one_segment at s new inner.0 (ap (λ (x : Region). is_main x.kind) is ∙ main) (subst (λ (x : Region). x.payload.start + 29 + length new ≡ x.payload.end) (sym is) fits)) in
    record {
      segments = one.segment ∷ ss;
      inner = (one.inner, inner.1);
      start = one.start;
      bytes = one.bytes (flat_map text (ss ++ tail ∷ []));
      listed = (λ j. one.same j ∷ placed (at + one.size j) (ss ++ tail ∷ []));
    }
others at (s ∷ ss) tail (suc i) r new inner last there main fits =
    let k = others (at + length (text s)) ss tail i r new inner.1 last there main fits in
    let place : ℕ = r.payload.start + 29 in
    record {
      segments = s ∷ k.segments;
      inner = (inner.0, k.inner);
      start = omega (arith, k.start);
      bytes = ap (λ (l : List ℕ). text s ++ l) k.bytes ∙ sym (put_past (text s) (flat_map text (ss ++ tail ∷ [])) new (place - (at + length (text s))))
          ∙ ap (λ (n : ℕ). put_at (text s ++ flat_map text (ss ++ tail ∷ [])) n new) (let past : at + length (text s) ≤ place = k.start in omega (arith, past));
      listed = ap (λ (rs : List Region). region at s ∷ rs) k.listed;
    }

-- the packet of a file, exchanged for one of its length, leaves the list of regions
pub packet_in_place : (file : List ℕ) (regions : List Region) (i : ℕ) (r : Region) (new : List ℕ) → Jpeg file regions → slice_get regions i ≡ Some r → is_main r.kind ≡ true
    → r.payload.start + 29 + length new ≡ r.payload.end → Jpeg (put_at file (r.payload.start + 29) new) regions
packet_in_place file regions i r new jpeg there main fits =
    let c = jpeg.cuts in
    let k = others 2 c.segments c.tail i r new c.inner c.last (ap (λ (rs : List Region). slice_get rs i) (sym c.listed) ∙ there) main fits in
    record {
      cuts = record {
        segments = k.segments;
        tail = c.tail;
        bytes = ap (λ (l : List ℕ). put_at l (r.payload.start + 29) new) c.bytes
            ∙ ap (λ (n : ℕ). put_at (0xFF ∷ 0xD8 ∷ flat_map text (c.segments ++ c.tail ∷ [])) n new) (let past : 2 ≤ r.payload.start + 29 = k.start in omega (arith, past))
            ∙ put_past (0xFF ∷ 0xD8 ∷ []) (flat_map text (c.segments ++ c.tail ∷ [])) new (r.payload.start + 29 - 2)
            ∙ ap (λ (l : List ℕ). 0xFF ∷ 0xD8 ∷ l) (sym k.bytes);
        inner = k.inner;
        last = c.last;
        listed = c.listed ∙ sym k.listed;
      };
      one = jpeg.one;
    }
