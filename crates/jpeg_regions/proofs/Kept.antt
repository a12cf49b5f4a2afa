-- One region more.
use Rattle.std.proofs.Common.{◌≡◌, ℕ, ◌+◌, ◌<◌, ◌≤◌, List, [], ◌∷◌, ◌++◌, length, map, drop, refl, sym, ap, subst, ◌∙◌, arith, append_assoc, Err, inl}
use Rattle.std.specs.Prelude.{flat_map}
use Rattle.std.specs.List.{AllByRecursion}
use Rattle.std.proofs.lemmas.List.{length-append, map_push, flat_map_more, take-append-drop}
use Rattle.xmp_values.specs.declared.rules.Rule.{Rule}
use Rattle.jpeg_regions.specs.declared.kind.RegionKind.{RegionKind}
use Rattle.jpeg_regions.specs.declared.kind.RegionKind.TheVariants.{Main, Portion, Exif, Resources, Mpf, App0, Other, Alone, Tail}
use Rattle.jpeg_regions.specs.declared.reading.Found.{Found}
use Rattle.xmp_values.specs.declared.stops.PlaceStop.{PlaceStop}
use Rattle.xmp_values.specs.declared.stops.PlaceStop.TheVariants.{Fault, Memory}
use Rattle.jpeg_regions.specs.Jpeg.{Segment, Region, text, region, placed, IsInner, Cuts, Broken, Breaks}
use Rattle.jpeg_regions.specs.Reads.{FoundInner, FoundTail, region_of, payload_end}
use Rattle.jpeg_regions.specs.Cutting.{Tiles, Underway, BeginsJpeg, CutAnswer, TakeAnswer}

pub tiles_push : (at end : ℕ) (rs : List Region) (r : Region) → Tiles at end rs → r.range.start ≡ end → end < r.payload.start
    → r.payload.start ≤ r.payload.end → r.payload.end ≤ r.range.end → Tiles at r.range.end (rs ++ r ∷ [])
tiles_push at end [] r t a b c d = (a ∙ sym t, omega (arith, t), c, d, refl)
tiles_push at end (x ∷ rs) r t a b c d = (t.0, t.1, t.2, t.3, tiles_push x.range.end end rs r t.4 a b c d)

within : (kind : RegionKind) (place end : ℕ) → place ≤ end → (place ≤ payload_end kind place end) × (payload_end kind place end ≤ end)
within Main place end h = (h, omega arith)
within Portion place end h = (h, omega arith)
within Exif place end h = (h, omega arith)
within Resources place end h = (h, omega arith)
within Mpf place end h = (h, omega arith)
within App0 place end h = (h, omega arith)
within Other place end h = (h, omega arith)
within Alone place end h = (h, omega arith)
within Tail place end h = (omega arith, h)

-- a region more among the numbers
pub tiles_found : (fs : List Found) (f : Found) (start : ℕ) → Tiles 2 start (map region_of fs) → f.start ≡ start → start < f.payload → f.payload ≤ f.end
    → Tiles 2 f.end (map region_of (fs ++ f ∷ []))
tiles_found fs f start t a b c =
    subst (λ rs. Tiles 2 f.end rs) (sym (map_push region_of fs f))
    (tiles_push 2 start (map region_of fs) (region_of f) t a b (within f.kind f.payload f.end c).0 (within f.kind f.payload f.end c).1)

pub join_push : (ss : List Segment) (s : Segment) → flat_map text (ss ++ s ∷ []) ≡ flat_map text ss ++ text s
join_push ss s = sym (flat_map_more text [] ss s)

pub placed_push : (at : ℕ) (ss : List Segment) (s : Segment) → placed at (ss ++ s ∷ []) ≡ placed at ss ++ region (at + length (flat_map text ss)) s ∷ []
placed_push at [] s = ap (λ (k : ℕ). region k s ∷ []) (omega arith)
placed_push at (x ∷ ss) s = ap (λ rs. region at x ∷ rs) (placed_push (at + length (text x)) ss s
    ∙ ap (λ (k : ℕ). placed (at + length (text x)) ss ++ region k s ∷ []) (omega (arith, length-append (text x) (flat_map text ss))))

all_push : (P : Segment → Type 0) (ss : List Segment) (s : Segment) → AllByRecursion P ss → P s → AllByRecursion P (ss ++ s ∷ [])
all_push P [] s a p = (p, tt)
all_push P (x ∷ ss) s a p = (a.0, all_push P ss s a.1 p)

module _ (file : List ℕ) (fs : List Found) (f : Found) (start : ℕ) (u : Underway file fs start) (same : f.start ≡ start) where
  -- what is listed, with one more
  listed_push : (s : Segment) → region_of f ≡ region f.start s → map region_of (fs ++ f ∷ []) ≡ placed 2 (u.segments ++ s ∷ [])
  listed_push s is = map_push region_of fs f ∙ ap (λ rs. rs ++ region_of f ∷ []) u.listed
      ∙ ap (λ r. placed 2 u.segments ++ r ∷ []) (is ∙ ap (λ (k : ℕ). region k s) (same ∙ u.place))
      ∙ sym (placed_push 2 u.segments s)

  pub underway_more : FoundInner file f → Underway file (fs ++ f ∷ []) f.end
  underway_more i = record {
    segments = u.segments ++ i.segment ∷ [];
    bytes = u.bytes ∙ ap (λ (l : List ℕ). 0xFF ∷ 0xD8 ∷ l)
        (ap (λ (l : List ℕ). flat_map text u.segments ++ l) (ap (λ (k : ℕ). drop k file) (sym same) ∙ i.bytes)
        ∙ sym (append_assoc (flat_map text u.segments) (text i.segment) (drop f.end file))
        ∙ ap (λ (l : List ℕ). l ++ drop f.end file) (sym (join_push u.segments i.segment)));
    place = omega (arith, i.whole, same, u.place, ap length (join_push u.segments i.segment), length-append (flat_map text u.segments) (text i.segment));
    inner = all_push IsInner u.segments i.segment u.inner i.inner;
    listed = listed_push i.segment i.is;
  }

  pub cuts_here : FoundTail file f → Cuts file (map region_of (fs ++ f ∷ []))
  cuts_here i = record {
    segments = u.segments;
    tail = i.segment;
    bytes = u.bytes ∙ ap (λ (l : List ℕ). 0xFF ∷ 0xD8 ∷ l)
        (ap (λ (l : List ℕ). flat_map text u.segments ++ l) (ap (λ (k : ℕ). drop k file) (sym same) ∙ i.bytes)
        ∙ sym (join_push u.segments i.segment));
    inner = u.inner;
    last = i.last;
    listed = listed_push i.segment i.is;
  }

pub broken_here : (file : List ℕ) (fs : List Found) (start : ℕ) (rule : Rule) → Underway file fs start → Breaks (drop start file) rule → Broken file rule start
broken_here file fs start rule u b = record {
  segments = u.segments;
  rest = drop start file;
  bytes = u.bytes;
  inner = u.inner;
  breaks = b;
  start = u.place;
}

-- nothing has been cut yet
pub underway_none : (file : List ℕ) → BeginsJpeg file → Underway file [] 2
underway_none file e = record {
  segments = [];
  bytes = sym (take-append-drop 2 file) ∙ ap (λ (l : List ℕ). l ++ drop 2 file) e;
  place = refl;
  inner = tt;
  listed = refl;
}

-- what stops a step stops the cut
pub stopped : (file : List ℕ) (found : List Found) (stop : PlaceStop) → TakeAnswer file found (Err stop) → CutAnswer file (Err stop)
stopped file found (Fault rule place) a = inl a
stopped file found Memory a = tt
