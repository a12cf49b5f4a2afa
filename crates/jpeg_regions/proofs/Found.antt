-- What a reader of regions knows after each step.
use Rattle.std.proofs.Common.{◌≡◌, ℕ, ◌+◌, ◌*◌, ◌-◌, ◌<◌, ◌≤◌, min, Bool, true, false, cond, ◌==◌, ◌&&◌, nat_eq, List, [], ◌∷◌, ◌++◌, length, take, drop, replicate, refl, sym, ap, subst, ◌∙◌, arith, append_assoc, lit<}
use Rattle.std.specs.List.{starts_with}
use Rattle.std.proofs.lemmas.List.{append-nil, drop-drop, length-replicate, length-append, length-drop, length-take, length-take-le, replicate_more, take-append-drop, take-take}
use Rattle.std.proofs.lemmas.Bool.Decides.{nat_tests}
use Rattle.xmp_values.specs.declared.rules.Rule.TheVariants.{BadMarker, BadLength, Truncated}
use Rattle.jpeg_regions.specs.declared.marker.Class.{Class}
use Rattle.jpeg_regions.specs.declared.marker.Class.TheVariants.{Fill, Refused, Single, Last, Sized}
use Rattle.jpeg_regions.specs.declared.kind.RegionKind.{RegionKind}
use Rattle.jpeg_regions.specs.declared.kind.RegionKind.TheVariants.{Main, Portion, Exif, Resources, Mpf, App0, Other, Alone, Tail}
use Rattle.jpeg_regions.specs.Markers.{class_of}
use Rattle.jpeg_regions.specs.Kinds.{kind_of, front_len, is_portion, is_exif, packet_signature, mpf_signature, resources_signature}
use Rattle.jpeg_regions.specs.Jpeg.{Segment, Region, text, span, region_by, HasBody, IsShort, Begins, Breaks, refused, low, filling, short}
use Rattle.jpeg_regions.specs.Reads.{AfterFill, AfterMarker, AfterLength, FoundInner, FoundTail, region_of, payload_end}
use Rattle.jpeg_regions.proofs.Fronts.{kind_of-take}
use Rattle.jpeg_regions.proofs.Pieces.{none_left}

-- only FF is a fill byte
pub class_fill : (m : ℕ) → class_of m ≡ Fill → m ≡ 0xFF
class_fill m e = grind (arith, nat_tests)

abbrev bare_at : RegionKind → ℕ → ℕ → ℕ → Region
bare_at kind start place end = record { kind = kind; range = span start end; payload = span place place }

bare_is : (kind : RegionKind) (start p q r e : ℕ) → p ≡ q → e ≡ r → bare_at kind start p e ≡ bare_at kind start q r
bare_is kind start p q r e a b = ap (λ (k : ℕ). bare_at kind start k e) a ∙ ap (λ (k : ℕ). bare_at kind start q k) b

pub length-text : (s : Segment) → length (text s) ≡ s.fill + 1 + length s.body
length-text s = omega (arith, length-append (replicate s.fill 0xFF) (s.marker ∷ s.body), length-replicate {A = ℕ} s.fill 0xFF)

module _ (file : List ℕ) (start place byte : ℕ) (a : AfterFill file start place) (e : drop place file ≡ byte ∷ drop (place + 1) file) where
  marked : drop start file ≡ replicate a.fill 0xFF ++ byte ∷ drop (place + 1) file
  marked = a.bytes ∙ ap (λ (l : List ℕ). replicate a.fill 0xFF ++ l) e

  pub fill_more : class_of byte ≡ Fill → AfterFill file start (place + 1)
  fill_more is = record {
    fill = a.fill + 1;
    filled = omega arith;
    place = omega (arith, a.place);
    bytes = marked ∙ ap (λ (b : ℕ). replicate a.fill 0xFF ++ b ∷ drop (place + 1) file) (class_fill byte is)
        ∙ sym (append_assoc (replicate a.fill 0xFF) (0xFF ∷ []) (drop (place + 1) file))
        ∙ ap (λ (l : List ℕ). l ++ drop (place + 1) file) (replicate_more a.fill 0xFF);
  }

  pub marker_read : class_of byte ≡ Sized → AfterMarker file start (place + 1) byte
  marker_read is = record { fill = a.fill; filled = a.filled; classed = is; place = omega (arith, a.place); bytes = marked }

  pub refused_here : class_of byte ≡ Refused → Breaks (drop start file) BadMarker
  refused_here is = refused (drop (place + 1) file) (record { fill = a.fill; marker = byte; filled = a.filled; classed = is; bytes = marked })

  single : Segment
  single = record { fill = a.fill; marker = byte; body = [] }

  pub single_found : class_of byte ≡ Single → FoundInner file (record { kind = Alone; start = start; payload = place + 1; end = place + 1 })
  unfolding single
  single_found is = record {
    segment = single;
    inner = record { filled = a.filled; body = subst (λ (c : Class). HasBody c []) (sym is) refl };
    bytes = marked ∙ sym (append_assoc (replicate a.fill 0xFF) (byte ∷ []) (drop (place + 1) file));
    whole = omega (arith, a.place, length-text single);
    is = subst (λ (c : Class). region_of (record { kind = Alone; start = start; payload = place + 1; end = place + 1 }) ≡ region_by c start single) (sym is)
        (bare_is Alone start (place + 1) (start + a.fill + 1) (start + length (text single)) (place + 1) (omega (arith, a.place)) (omega (arith, a.place, length-text single)));
  }

  tail : Segment
  tail = record { fill = a.fill; marker = byte; body = drop (place + 1) file }

  pub tail_found : (len : ℕ) → length file ≡ len → place < len → class_of byte ≡ Last → FoundTail file (record { kind = Tail; start = start; payload = place + 1; end = len })
  unfolding tail
  tail_found len full within is = record {
    segment = tail;
    last = record { filled = a.filled; last = is };
    bytes = marked;
    is = subst (λ (c : Class). region_of (record { kind = Tail; start = start; payload = place + 1; end = len }) ≡ region_by c start tail) (sym is)
        (bare_is Tail start (place + 1) (start + a.fill + 1) (start + length (text tail)) len (omega (arith, a.place)) (omega (arith, a.place, length-text tail, length-drop (place + 1) file)));
  }

-- a kind of segments with a payload
record HasPayload (kind : RegionKind) : Type 0 where
  ends : (place end : ℕ) → payload_end kind place end ≡ end

either : (b : Bool) (k l : RegionKind) → HasPayload k → HasPayload l → HasPayload (cond b k l)
either true k l p q = p
either false k l p q = q

has_payload : (marker : ℕ) (xs : List ℕ) → HasPayload (kind_of marker xs)
has_payload marker xs =
    let app0 : HasPayload App0 = record { ends = λ _ _. refl } in
    let main : HasPayload Main = record { ends = λ _ _. refl } in
    let portion : HasPayload Portion = record { ends = λ _ _. refl } in
    let exif : HasPayload Exif = record { ends = λ _ _. refl } in
    let mpf : HasPayload Mpf = record { ends = λ _ _. refl } in
    let resources : HasPayload Resources = record { ends = λ _ _. refl } in
    let other : HasPayload Other = record { ends = λ _ _. refl } in
    either (marker == 0xE0) _ _ app0 (either (marker == 0xE1) _ _
    (either (starts_with nat_eq xs packet_signature) _ _ main (either (is_portion xs) _ _ portion (either (is_exif xs) _ _ exif other)))
    (either (marker == 0xE2 && starts_with nat_eq xs mpf_signature) _ _ mpf
    (either (marker == 0xED && starts_with nat_eq xs resources_signature) _ _ resources other)))

payload_end-kind_of : (marker : ℕ) (xs : List ℕ) (place end : ℕ) → payload_end (kind_of marker xs) place end ≡ end
payload_end-kind_of marker xs = (has_payload marker xs).ends

-- a list that doesn't hold a whole length
short_of : (xs : List ℕ) → length xs < 2 → IsShort xs
short_of [] h = tt
short_of (x ∷ []) h = tt
short_of (x ∷ y ∷ xs) h = absurd (omega arith)

-- the file ends after FF bytes
pub fill_ends : (file piece : List ℕ) (start at : ℕ) → AfterFill file start at → piece ≡ take 1 (drop at file) → length piece ≡ 0 → Breaks (drop start file) Truncated
fill_ends file piece start at a e h =
    filling a.fill a.filled (a.bytes ∙ ap (λ (l : List ℕ). replicate a.fill 0xFF ++ l) (none_left (drop at file) piece 1 e (lit< tt) h) ∙ append-nil (replicate a.fill 0xFF))

module _ (file : List ℕ) (start at marker : ℕ) (a : AfterMarker file start at marker) where
  begins : Begins (drop start file) Sized (drop at file)
  begins = record { fill = a.fill; marker = marker; filled = a.filled; classed = a.classed; bytes = a.bytes }

  pub cut_short : (piece : List ℕ) → piece ≡ take 2 (drop at file) → length piece < 2 → Breaks (drop start file) Truncated
  cut_short piece e h = short (drop at file) begins (short_of (drop at file) (omega (arith, ap length e, length-take 2 (drop at file))))

  module _ (high low' : ℕ) (e : drop at file ≡ high ∷ low' ∷ drop (at + 2) file) where
    measured : drop start file ≡ replicate a.fill 0xFF ++ marker ∷ high ∷ low' ∷ drop (at + 2) file
    measured = a.bytes ∙ ap (λ (l : List ℕ). replicate a.fill 0xFF ++ marker ∷ l) e

    begins_whole : Begins (drop start file) Sized (high ∷ low' ∷ drop (at + 2) file)
    begins_whole = record { fill = a.fill; marker = marker; filled = a.filled; classed = a.classed; bytes = measured }

    pub low_here : high * 256 + low' < 2 → Breaks (drop start file) BadLength
    low_here h = low (high ∷ low' ∷ drop (at + 2) file) begins_whole (omega arith)

    pub short_here : (len : ℕ) → length file ≡ len → 2 ≤ high * 256 + low' → len - (at + 2) < high * 256 + low' - 2 → Breaks (drop start file) Truncated
    short_here len full h l = short (high ∷ low' ∷ drop (at + 2) file) begins_whole (omega arith, omega (arith, length-drop (at + 2) file))

    pub length_read : 2 ≤ high * 256 + low' → AfterLength file start (at + 2) marker (high * 256 + low' - 2)
    length_read h = record { fill = a.fill; high = high; low = low'; filled = a.filled; classed = a.classed; place = omega (arith, a.place); counted = omega arith; bytes = measured }

module _ (file : List ℕ) (start at marker len : ℕ) (a : AfterLength file start at marker len) (within : at + len ≤ length file) where
  payload : List ℕ
  payload = take len (drop at file)

  length-payload : length payload ≡ len
  unfolding payload
  length-payload = length-take-le len (drop at file) (omega (arith, length-drop at file))

  sized : Segment
  sized = record { fill = a.fill; marker = marker; body = a.high ∷ a.low ∷ payload }

  length-sized : length (text sized) ≡ a.fill + 3 + len
  unfolding sized
  length-sized = omega (arith, length-text sized, length-payload)

  abbrev segment_at : RegionKind → ℕ → ℕ → ℕ → Region
  segment_at kind whole place last = record { kind = kind; range = span start whole; payload = span place last }

  same : segment_at (kind_of marker payload) (at + len) at (at + len) ≡ region_by Sized start sized
  unfolding sized payload
  same = let k : at + len ≡ start + length (text sized) = omega (arith, a.place, length-sized) in
      ap (λ (e : ℕ). segment_at (kind_of marker payload) e at e) k
      ∙ ap (λ (e : ℕ). segment_at (kind_of marker payload) (start + length (text sized)) e (start + length (text sized))) (omega (arith, a.place))

  split : drop at file ≡ payload ++ drop (at + len) file
  unfolding payload
  split = sym (take-append-drop len (drop at file)) ∙ ap (λ (l : List ℕ). take len (drop at file) ++ l) (drop-drop len at file)

  pub sized_found : (piece : List ℕ) → piece ≡ take (min (front_len marker) len) (drop at file)
      → FoundInner file (record { kind = kind_of marker piece; start = start; payload = at; end = at + len })
  unfolding sized payload
  sized_found piece e = record {
    segment = sized;
    inner = record { filled = a.filled; body = subst (λ (c : Class). HasBody c (a.high ∷ a.low ∷ payload)) (sym a.classed) (omega (arith, a.counted, length-payload)) };
    bytes = a.bytes ∙ ap (λ (l : List ℕ). replicate a.fill 0xFF ++ marker ∷ a.high ∷ a.low ∷ l) split
        ∙ sym (append_assoc (replicate a.fill 0xFF) (marker ∷ a.high ∷ a.low ∷ payload) (drop (at + len) file));
    whole = omega (arith, a.place, length-sized);
    is = ap (λ (k : ℕ). segment_at (kind_of marker piece) (at + len) at k) (payload_end-kind_of marker piece at (at + len))
        ∙ ap (λ (k : RegionKind). segment_at k (at + len) at (at + len)) (ap (kind_of marker) (e ∙ sym (take-take (min (front_len marker) len) len (drop at file) (omega arith))) ∙ kind_of-take marker len payload length-payload)
        ∙ subst (λ (c : Class). segment_at (kind_of marker payload) (at + len) at (at + len) ≡ region_by c start sized) (sym a.classed) same;
  }

-- the first FF byte of a region
pub first_fill : (file : List ℕ) (start at first : ℕ) → at ≡ start → drop at file ≡ first ∷ drop (at + 1) file → first ≡ 0xFF → AfterFill file start (at + 1)
first_fill file start at first same e ff = record {
  fill = 1;
  filled = omega arith;
  place = omega (arith, same);
  bytes = ap (λ (k : ℕ). drop k file) (sym same) ∙ e ∙ ap (λ (b : ℕ). b ∷ drop (at + 1) file) ff;
}
