-- What an exchange of regions makes of a file and of its list.
use Rattle.std.proofs.Common.{◌≡◌, ℕ, ◌+◌, ◌-◌, ◌≤◌, List, [], ◌∷◌, ◌++◌, length, map, take, drop, refl, sym, ap, subst, ◌∙◌, arith, append_assoc}
use Rattle.std.specs.Prelude.{flat_map}
use Rattle.std.specs.List.{AllByRecursion}
use Rattle.std.proofs.lemmas.List.{length-append, take_at, drop_at}
use Rattle.jpeg_regions.specs.declared.marker.Class.{Class}
use Rattle.jpeg_regions.specs.declared.marker.Class.TheVariants.{Fill, Refused, Single, Last, Sized}
use Rattle.jpeg_regions.specs.declared.kind.RegionKind.{RegionKind}
use Rattle.jpeg_regions.specs.Markers.{class_of}
use Rattle.jpeg_regions.specs.Jpeg.{Segment, Region, text, span, region, region_by, placed, IsInner, IsTail, Cuts}
use Rattle.jpeg_regions.specs.Exchanged.{start_of, moved, exchanged_file, exchanged_list}

pub join-append : (ss ts : List Segment) → flat_map text (ss ++ ts) ≡ flat_map text ss ++ flat_map text ts
join-append [] ts = refl
join-append (s ∷ ss) ts = ap (λ (l : List ℕ). text s ++ l) (join-append ss ts) ∙ sym (append_assoc (text s) (flat_map text ss) (flat_map text ts))

pub placed-append : (at : ℕ) (ss ts : List Segment) → placed at (ss ++ ts) ≡ placed at ss ++ placed (at + length (flat_map text ss)) ts
placed-append at [] ts = ap (λ (k : ℕ). placed k ts) (omega arith)
placed-append at (s ∷ ss) ts = ap (λ rs. region at s ∷ rs) (placed-append (at + length (text s)) ss ts
    ∙ ap (λ (k : ℕ). placed (at + length (text s)) ss ++ placed k ts) (omega (arith, length-append (text s) (flat_map text ss))))

all-append : (ss ts : List Segment) → AllByRecursion IsInner ss → AllByRecursion IsInner ts → AllByRecursion IsInner (ss ++ ts)
all-append [] ts a b = b
all-append (s ∷ ss) ts a b = (a.0, all-append ss ts a.1 b)

all_before : (ss ts : List Segment) → AllByRecursion IsInner (ss ++ ts) → AllByRecursion IsInner ss
all_before [] ts h = tt
all_before (s ∷ ss) ts h = (h.0, all_before ss ts h.1)

all_after : (ss ts : List Segment) → AllByRecursion IsInner (ss ++ ts) → AllByRecursion IsInner ts
all_after [] ts h = h
all_after (s ∷ ss) ts h = all_after ss ts h.1

-- where a list of regions is cut, so are the segments
placed_split : (at : ℕ) (all : List Segment) (rs qs : List Region) → placed at all ≡ rs ++ qs
    → (ss : List Segment) × (ts : List Segment) × (all ≡ ss ++ ts) × (rs ≡ placed at ss) × (qs ≡ placed (at + length (flat_map text ss)) ts)
placed_split at all [] qs e = ([], all, refl, refl, sym e ∙ ap (λ (k : ℕ). placed k all) (omega arith))
placed_split at [] (r ∷ rs) qs e = absurd (cc)
placed_split at (s ∷ all) (r ∷ rs) qs e =
    let head : region at s ≡ r = cc in
    let rest : placed (at + length (text s)) all ≡ rs ++ qs = cc in
    let k = placed_split (at + length (text s)) all rs qs rest in (
      s ∷ k.0,
      k.1,
      ap (λ ss. s ∷ ss) k.2,
      ap (λ q. q ∷ rs) (sym head) ∙ ap (λ qs. region at s ∷ qs) k.3,
      k.4 ∙ ap (λ (n : ℕ). placed n k.1) (omega (arith, length-append (text s) (flat_map text k.0))),
    )

-- the tail stays at the end
tail_kept : (ss all : List Segment) (t tail : Segment) (ts : List Segment) → ss ++ t ∷ ts ≡ all ++ tail ∷ []
    → (rest : List Segment) × ((t ∷ ts) ≡ rest ++ tail ∷ []) × (all ≡ ss ++ rest)
tail_kept [] all t tail ts e = (all, e, refl)
tail_kept (s ∷ ss) [] t tail ts e = let k : ss ++ t ∷ ts ≡ [] = cc in absurd (omega (arith, ap length k, length-append ss (t ∷ ts)))
tail_kept (s ∷ ss) (a ∷ all) t tail ts e =
    let head : s ≡ a = cc in
    let rest : ss ++ t ∷ ts ≡ all ++ tail ∷ [] = cc in
    let k = tail_kept ss all t tail ts rest in
    (k.0, k.1, ap (λ (x : Segment). x ∷ all) (sym head) ∙ ap (λ xs. s ∷ xs) k.2)

-- a region further on
abbrev region_as : RegionKind → ℕ → ℕ → ℕ → ℕ → Region
region_as kind a b c d = record { kind = kind; range = span a b; payload = span c d }

region_eq : (kind : RegionKind) (a b c d w x y z : ℕ) → a ≡ w → b ≡ x → c ≡ y → d ≡ z → region_as kind a b c d ≡ region_as kind w x y z
region_eq kind a b c d w x y z e f g h =
    ap (λ (n : ℕ). region_as kind n b c d) e ∙ ap (λ (n : ℕ). region_as kind w n c d) f ∙ ap (λ (n : ℕ). region_as kind w x n d) g ∙ ap (λ (n : ℕ). region_as kind w x y n) h

moved_by : (c : Class) (old new at there : ℕ) (s : Segment) → old ≤ at → there ≡ at - old + new → region_by c there s ≡ moved old new (region_by c at s)
moved_by Fill old new at there s h e = region_eq _ _ _ _ _ _ _ _ _ e (omega arith) (omega arith) (omega arith)
moved_by Refused old new at there s h e = region_eq _ _ _ _ _ _ _ _ _ e (omega arith) (omega arith) (omega arith)
moved_by Single old new at there s h e = region_eq _ _ _ _ _ _ _ _ _ e (omega arith) (omega arith) (omega arith)
moved_by Last old new at there s h e = region_eq _ _ _ _ _ _ _ _ _ e (omega arith) (omega arith) (omega arith)
moved_by Sized old new at there s h e = region_eq _ _ _ _ _ _ _ _ _ e (omega arith) (omega arith) (omega arith)

placed_moved : (old new at there : ℕ) (ss : List Segment) → old ≤ at → there ≡ at - old + new → placed there ss ≡ map (moved old new) (placed at ss)
placed_moved old new at there [] h e = refl
placed_moved old new at there (s ∷ ss) h e =
    ap (λ r. r ∷ placed (there + length (text s)) ss) (moved_by (class_of s.marker) old new at there s h e)
    ∙ ap (λ rs. moved old new (region at s) ∷ rs) (placed_moved old new (at + length (text s)) (there + length (text s)) ss (omega arith) (omega arith))

start_by : (c : Class) (at : ℕ) (s : Segment) → (region_by c at s).range.start ≡ at
start_by Fill at s = refl
start_by Refused at s = refl
start_by Single at s = refl
start_by Last at s = refl
start_by Sized at s = refl

start_placed : (at : ℕ) (rs : List Region) (r : Region) (qs : List Region) (ss : List Segment) → rs ++ r ∷ qs ≡ placed at ss → start_of (rs ++ r ∷ qs) ≡ at
start_placed at rs r qs [] e = let k = ap length e in absurd (omega (arith, k, length-append rs (r ∷ qs)))
start_placed at rs r qs (s ∷ ss) e = ap start_of e ∙ start_by (class_of s.marker) at s

-- over segments
module _ (a x c segments : List Segment) (tail : Segment) (p q : ℕ) (at_a : p ≡ 2 + length (flat_map text a)) (at_x : q ≡ p + length (flat_map text x)) where
  abbrev old : List ℕ
  old = 0xFF ∷ 0xD8 ∷ flat_map text (a ++ (x ++ (c ++ tail ∷ [])))

  parts : old ≡ (0xFF ∷ 0xD8 ∷ flat_map text a) ++ (flat_map text x ++ flat_map text (c ++ tail ∷ []))
  parts = ap (λ (l : List ℕ). 0xFF ∷ 0xD8 ∷ l) (join-append a (x ++ (c ++ tail ∷ [])) ∙ ap (λ (l : List ℕ). flat_map text a ++ l) (join-append x (c ++ tail ∷ [])))

  front : take p old ≡ 0xFF ∷ 0xD8 ∷ flat_map text a
  front = ap (take p) parts ∙ take_at (0xFF ∷ 0xD8 ∷ flat_map text a) (flat_map text x ++ flat_map text (c ++ tail ∷ [])) p (omega (arith, at_a))

  back : drop q old ≡ flat_map text (c ++ tail ∷ [])
  back = ap (drop q) (parts ∙ sym (append_assoc (0xFF ∷ 0xD8 ∷ flat_map text a) (flat_map text x) (flat_map text (c ++ tail ∷ []))))
      ∙ drop_at ((0xFF ∷ 0xD8 ∷ flat_map text a) ++ flat_map text x) (flat_map text (c ++ tail ∷ [])) q
      (omega (arith, at_a, at_x, length-append (0xFF ∷ 0xD8 ∷ flat_map text a) (flat_map text x)))

  grouped : (a ++ (segments ++ c)) ++ tail ∷ [] ≡ a ++ (segments ++ (c ++ tail ∷ []))
  grouped = append_assoc a (segments ++ c) (tail ∷ []) ∙ ap (λ ss. a ++ ss) (append_assoc segments c (tail ∷ []))

  new_bytes : exchanged_file old p q segments ≡ 0xFF ∷ 0xD8 ∷ flat_map text ((a ++ (segments ++ c)) ++ tail ∷ [])
  new_bytes = ap (λ (l : List ℕ). l ++ (flat_map text segments ++ drop q old)) front
      ∙ ap (λ (l : List ℕ). (0xFF ∷ 0xD8 ∷ flat_map text a) ++ (flat_map text segments ++ l)) back
      ∙ ap (λ (l : List ℕ). 0xFF ∷ 0xD8 ∷ l) (ap (λ (l : List ℕ). flat_map text a ++ l) (sym (join-append segments (c ++ tail ∷ []))) ∙ sym (join-append a (segments ++ (c ++ tail ∷ []))))
      ∙ ap (λ ss. 0xFF ∷ 0xD8 ∷ flat_map text ss) (sym grouped)

  new_list : exchanged_list (placed 2 a) p q segments (placed q (c ++ tail ∷ [])) ≡ placed 2 ((a ++ (segments ++ c)) ++ tail ∷ [])
  new_list =
      ap (λ rs. placed 2 a ++ (placed p segments ++ rs)) (sym (placed_moved q (p + length (flat_map text segments)) q (p + length (flat_map text segments)) (c ++ tail ∷ []) (omega arith) (omega arith)))
      ∙ ap (λ rs. placed 2 a ++ rs) (sym (placed-append p segments (c ++ tail ∷ [])))
      ∙ ap (λ (k : ℕ). placed 2 a ++ placed k (segments ++ (c ++ tail ∷ []))) at_a
      ∙ sym (placed-append 2 a (segments ++ (c ++ tail ∷ [])))
      ∙ ap (placed 2) (sym grouped)

  exchange_cuts : AllByRecursion IsInner a → AllByRecursion IsInner segments → AllByRecursion IsInner c → IsTail tail
      → Cuts (exchanged_file old p q segments) (exchanged_list (placed 2 a) p q segments (placed q (c ++ tail ∷ [])))
  exchange_cuts h i j k = record {
    segments = a ++ (segments ++ c);
    tail = tail;
    bytes = new_bytes;
    inner = all-append a (segments ++ c) h (all-append segments c i j);
    last = k;
    listed = new_list;
  }

-- the list of the file, cut where the regions are
pub exchanged_cuts : (file : List ℕ) (before gone after : List Region) (next : Region) (segments : List Segment) → Cuts file (before ++ (gone ++ next ∷ after))
    → AllByRecursion IsInner segments
    → Cuts (exchanged_file file (start_of (gone ++ next ∷ after)) next.range.start segments)
    (exchanged_list before (start_of (gone ++ next ∷ after)) next.range.start segments (next ∷ after))
exchanged_cuts file before gone after next segments cuts inner =
    let f = placed_split 2 (cuts.segments ++ cuts.tail ∷ []) before (gone ++ next ∷ after) (sym cuts.listed) in
    let g = placed_split (2 + length (flat_map text f.0)) f.1 gone (next ∷ after) (sym f.4) in
    by_parts f.0 g.0 g.1 f.1 f.2 g.2 f.3 g.3 g.4 f.4
  where
    by_parts : (a x y all : List Segment) → cuts.segments ++ cuts.tail ∷ [] ≡ a ++ all → all ≡ x ++ y → before ≡ placed 2 a
        → gone ≡ placed (2 + length (flat_map text a)) x
        → next ∷ after ≡ placed (2 + length (flat_map text a) + length (flat_map text x)) y
        → gone ++ next ∷ after ≡ placed (2 + length (flat_map text a)) all
        → Cuts (exchanged_file file (start_of (gone ++ next ∷ after)) next.range.start segments)
        (exchanged_list before (start_of (gone ++ next ∷ after)) next.range.start segments (next ∷ after))
    by_parts a x [] all e f g h i j = absurd (cc)
    by_parts a x (s ∷ y) all e f g h i j =
        let p = 2 + length (flat_map text a) in
        let q = p + length (flat_map text x) in
        let whole : cuts.segments ++ cuts.tail ∷ [] ≡ a ++ (x ++ s ∷ y) = e ∙ ap (λ ss. a ++ ss) f in
        let k = tail_kept (a ++ x) cuts.segments s cuts.tail y (append_assoc a x (s ∷ y) ∙ sym whole) in
        let mine : AllByRecursion IsInner ((a ++ x) ++ k.0) = subst (AllByRecursion IsInner) k.2 cuts.inner in
        let start : start_of (gone ++ next ∷ after) ≡ p = start_placed p gone next after all j in
        let later : next.range.start ≡ q = start_placed q [] next after (s ∷ y) i in
        let bytes : file ≡ 0xFF ∷ 0xD8 ∷ flat_map text (a ++ (x ++ (k.0 ++ cuts.tail ∷ []))) =
        cuts.bytes ∙ ap (λ ss. 0xFF ∷ 0xD8 ∷ flat_map text ss) (whole ∙ ap (λ ss. a ++ (x ++ ss)) k.1) in
        let list : next ∷ after ≡ placed q (k.0 ++ cuts.tail ∷ []) = i ∙ ap (placed q) k.1 in
        let made = exchange_cuts a x k.0 segments cuts.tail p q refl refl (all_before a x (all_before (a ++ x) k.0 mine)) inner (all_after (a ++ x) k.0 mine) cuts.last in
        let place = start_of (gone ++ next ∷ after) in
        let new_file : exchanged_file file place next.range.start segments ≡ exchanged_file file p q segments =
        ap (λ (k : ℕ). exchanged_file file k next.range.start segments) start ∙ ap (λ (k : ℕ). exchanged_file file p k segments) later in
        let new_regions : exchanged_list before place next.range.start segments (next ∷ after) ≡ exchanged_list (placed 2 a) p q segments (placed q (k.0 ++ cuts.tail ∷ [])) =
        ap (λ (n : ℕ). exchanged_list before n next.range.start segments (next ∷ after)) start
        ∙ ap (λ (n : ℕ). exchanged_list before p n segments (next ∷ after)) later
        ∙ ap (λ rs. exchanged_list rs p q segments (next ∷ after)) g
        ∙ ap (λ rs. exchanged_list (placed 2 a) p q segments rs) list in
        subst (λ (l : List ℕ). Cuts l (exchanged_list before place next.range.start segments (next ∷ after))) (sym new_file)
        (subst (λ rs. Cuts (exchanged_file file p q segments) rs) (sym new_regions)
        (subst (λ (l : List ℕ). Cuts (exchanged_file l p q segments) (exchanged_list (placed 2 a) p q segments (placed q (k.0 ++ cuts.tail ∷ [])))) (sym bytes) made))
