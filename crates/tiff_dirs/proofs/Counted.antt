-- The ranges of pairs, by the pieces that are kept.
use Rattle.std.proofs.Common.{◌≡◌, ℕ, zero, suc, ◌+◌, ◌-◌, ◌*◌, ◌<◌, ◌≤◌, inl, inr, Bool, true, List, [], ◌∷◌, ◌++◌, length, take, drop, map, get_or, refl, sym, ap, subst, ◌∙◌, arith, Some}
use Rattle.std.specs.declared.option.Option.{Option}
use Rattle.std.specs.List.{All, flat_map, slice_get}
use Rattle.std.proofs.lemmas.List.{length-append, length-map, drop_all, map_push, take_more, flat_map_more}
use Rattle.std.proofs.lemmas.List.Elements.{All-head, All-tail}
use Rattle.std.proofs.lemmas.List.Sums.{sum_by-cons, sum_by_push}
use Rattle.xmp_base.specs.declared.file_span.FileSpan.{FileSpan}
use Rattle.tiff_dirs.specs.declared.layout.Layout.{Layout}
use Rattle.tiff_dirs.specs.declared.entry.Entry.{Entry}
use Rattle.tiff_dirs.specs.declared.pieces.Piece.{Piece}
use Rattle.tiff_dirs.specs.declared.tables.Table.{Table}
use Rattle.tiff_dirs.specs.declared.tables.Pair.{Pair}
use Rattle.tiff_dirs.specs.declared.tables.PlacedPair.{PlacedPair}
use Rattle.tiff_dirs.specs.declared.tables.CountedPair.{CountedPair}
use Rattle.tiff_dirs.specs.Numbers.{numbers}
use Rattle.tiff_dirs.specs.Types.{size_of}
use Rattle.tiff_dirs.specs.Pictures.{Picture, are_paired, items_of, ranges, spans_of}
use Rattle.tiff_dirs.specs.Kept.{Has, Holds}
use Rattle.tiff_dirs.specs.Nearest.{closest}
use Rattle.tiff_dirs.specs.Pairs.{ranges_from, ranges_in, spans_in, bytes_by, ranges_by, spans_by, IsPair, IsCounted, count_of, IsRanked}
use Rattle.tiff_dirs.proofs.Kept.{All-at, pushed}
use Rattle.tiff_dirs.proofs.Nearest.{closest_append, drop_at}
use Rattle.tiff_dirs.proofs.Piece.{numbers_part, part_of}
use Rattle.tiff_dirs.proofs.Shown.{paired_count}

get_left : {X : Type 0} (xs ys : List X) (i : ℕ) → i < length xs → slice_get (xs ++ ys) i ≡ slice_get xs i
get_left [] ys i h = absurd (omega arith)
get_left (x ∷ xs) ys zero h = refl
get_left (x ∷ xs) ys (suc i) h = get_left xs ys i (omega arith)

get_right : {X : Type 0} (xs ys : List X) (i j : ℕ) → i ≡ length xs + j → slice_get (xs ++ ys) i ≡ slice_get ys j
get_right [] ys i j h = ap (slice_get ys) (let e : i ≡ j = omega arith in e)
get_right (x ∷ xs) ys zero j h = absurd (omega arith)
get_right (x ∷ xs) ys (suc i) j h = get_right xs ys i j (omega arith)

-- no pair
abbrev pub none : CountedPair
none = record {
  placed = record {
    pair = record { place = 0; offsets = record { start = 0; width = 0 }; lens = record { start = 0; width = 0 }; count = 0 };
    offsets = 0;
    lens = 0;
  };
  first = 0;
  shown = 0;
}

-- one pair more
pub pairs_more : (list : List CountedPair) (c : CountedPair) (new : List CountedPair) (pairs : List Pair) (i : ℕ) (x : Pair) → i < length pairs
    → map (λ c. c.placed.pair) list ≡ take i pairs → new ≡ list ++ c ∷ [] → c.placed.pair ≡ get_or pairs i x → map (λ c. c.placed.pair) new ≡ take (i + 1) pairs
pairs_more list c new pairs i x h old e p =
    ap (map (λ (d : CountedPair). d.placed.pair)) e ∙ map_push (λ (d : CountedPair). d.placed.pair) list c
    ∙ ap (λ (t : List Pair). t ++ c.placed.pair ∷ []) old ∙ ap (λ (r : Pair). take i pairs ++ r ∷ []) p ∙ sym (take_more pairs i x h)

ranked_push : (list : List CountedPair) (c : CountedPair) → IsRanked list → c.first ≡ count_of list → IsRanked (list ++ c ∷ [])
ranked_push list c old first = λ k d e.
    elim (pushed list c k d e) [
      | inl h ↦ old k d h.1 ∙ ap count_of (sym h.2)
      | inr h ↦ ap (λ (x : CountedPair). x.first) h.1 ∙ first ∙ ap count_of (sym h.2)
    ]

pub ranked_more : (list : List CountedPair) (c : CountedPair) (new : List CountedPair) → IsRanked list → c.first ≡ count_of list → new ≡ list ++ c ∷ [] → IsRanked new
ranked_more list c new old first e = subst IsRanked (sym e) (ranked_push list c old first)

pub count_more : (list : List CountedPair) (c : CountedPair) (new : List CountedPair) (total more : ℕ) → total ≡ count_of list → more ≡ total + c.shown → new ≡ list ++ c ∷ [] → more ≡ count_of new
count_more list c new total more t m e = let p = sum_by_push (λ (x : CountedPair). x.shown) list c in let q = ap count_of e in omega (arith, t, m, p, q)

module _ (big : Bool) (pieces : List Piece) where
  abbrev spans : CountedPair → List FileSpan
  spans c = spans_of (ranges_by big pieces c.placed)

  spans_count : (len : ℕ) (c : CountedPair) → IsCounted big len pieces c → length (spans c) ≡ c.shown
  spans_count len c is = length-map (ranges_by big pieces c.placed) (λ (p : Picture). p.range) ∙ sym is.shown

  -- as many ranges as are counted
  pub count_is : (len : ℕ) (pairs : List CountedPair) → All (IsCounted big len pieces) pairs → length (spans_by big pieces pairs) ≡ count_of pairs
  unfolding spans_by
  count_is len [] all = refl
  count_is len (c ∷ cs) all =
      let here = spans_count len c (All-head (IsCounted big len pieces) c cs all) in
      let rest : length (flat_map spans cs) ≡ count_of cs = count_is len cs (All-tail (IsCounted big len pieces) c cs all) in
      let a = length-append (spans c) (flat_map spans cs) in
      let b = sum_by-cons (λ (x : CountedPair). x.shown) c cs in
      omega (arith, here, rest, a, b)

  -- a range of the pair that has it
  pub range_of : (len : ℕ) (pairs : List CountedPair) (k i : ℕ) (c : CountedPair) → All (IsCounted big len pieces) pairs → slice_get pairs k ≡ Some c → count_of (take k pairs) ≤ i
      → i < count_of (take k pairs) + c.shown → slice_get (spans_by big pieces pairs) i ≡ slice_get (spans_of (ranges_by big pieces c.placed)) (i - count_of (take k pairs))
  unfolding spans_by
  range_of len [] k i c all e h m = (cc)
  range_of len (x ∷ xs) zero i c all e h m =
      let same : x ≡ c = (cc e) in
      let size = spans_count len x (All-head (IsCounted big len pieces) x xs all) in
      let shown : x.shown ≡ c.shown = ap (λ (y : CountedPair). y.shown) same in
      let at : i ≡ i - 0 = omega arith in
      get_left (spans x) (flat_map spans xs) i (omega (arith, size, shown, m))
      ∙ ap (λ (y : CountedPair). slice_get (spans y) i) same ∙ ap (slice_get (spans c)) at
  range_of len (x ∷ xs) (suc k) i c all e h m =
      let size = spans_count len x (All-head (IsCounted big len pieces) x xs all) in
      let count = sum_by-cons (λ (y : CountedPair). y.shown) x (take k xs) in
      let there : i ≡ length (spans x) + (i - x.shown) = omega (arith, size, count, h) in
      let at : i - x.shown - count_of (take k xs) ≡ i - count_of (take (suc k) (x ∷ xs)) = omega (arith, count, h) in
      get_right (spans x) (flat_map spans xs) i (i - x.shown) there
      ∙ range_of len xs k (i - x.shown) c (All-tail (IsCounted big len pieces) x xs all) e (omega (arith, count, h)) (omega (arith, count, h, m))
      ∙ ap (slice_get (spans c)) at

  module _ (mine : FileSpan) where
    -- the ranges of a pair, and those after it
    pub kept_more : (best next : Option FileSpan) (pairs : List CountedPair) (i : ℕ) (c : CountedPair) → slice_get pairs i ≡ Some c
        → next ≡ closest mine best (spans_of (ranges_by big pieces c.placed)) → closest mine next (spans_by big pieces (drop (i + 1) pairs)) ≡ closest mine best (spans_by big pieces (drop i pairs))
    unfolding spans_by
    kept_more best next pairs i c at is =
        ap (λ (b : Option FileSpan). closest mine b (flat_map spans (drop (i + 1) pairs))) is
        ∙ sym (closest_append mine best (spans c) (flat_map spans (drop (i + 1) pairs)))
        ∙ ap (λ (t : List CountedPair). closest mine best (flat_map spans t)) (sym (drop_at pairs i c at))

    pub kept_end : (best : Option FileSpan) (pairs : List CountedPair) (i : ℕ) → length pairs ≤ i → best ≡ closest mine best (spans_by big pieces (drop i pairs))
    unfolding spans_by
    kept_end best pairs i h = ap (λ (t : List CountedPair). closest mine best (flat_map spans t)) (sym (drop_all i pairs h))

-- the numbers of a table, by its piece and by the file
table_is : (file : List ℕ) (q : Piece) (len start size : ℕ) (big : Bool) (w n : ℕ) → Holds file q → Has len start size q → w * n ≤ size
    → numbers big w (w * 0) (n - 0) (drop (start - q.start) q.bytes.items) ≡ numbers big w start n file
table_is file q len start size big w n holds has room =
    let k = start - q.start in
    let bytes = q.bytes.items in
    let begins = has.begins in
    let ends = has.ends in
    let z : w * 0 ≡ 0 = omega arith in
    let m : n - 0 ≡ n = omega arith in
    let split : length bytes ≡ k + (length bytes - k) = omega (arith, begins, ends) in
    ap (λ (j : ℕ). numbers big w j (n - 0) (drop k bytes)) z
    ∙ ap (λ (j : ℕ). numbers big w 0 j (drop k bytes)) m
    ∙ numbers_part (drop k bytes) file (q.start + k) (length bytes - k) (ap (drop k) holds ∙ part_of file q.start k (length bytes) (length bytes - k) split) big w 0 start n
    (omega (arith, begins, ends, room)) (omega (arith, begins))

pub placed_ranges : (file : List ℕ) (big : Bool) (len : ℕ) (pieces : List Piece) (p : PlacedPair) → All (Holds file) pieces → IsPair len pieces p → ranges_by big pieces p ≡ ranges_in big file p.pair
unfolding ranges_by ranges_in ranges_from
placed_ranges file big len pieces p holds is =
    let q = is.offsets.0 in
    let r = is.lens.0 in
    let w = p.pair.offsets.width in
    let v = p.pair.lens.width in
    let n = p.pair.count in
    let place = p.pair.place in
    let at = p.pair.offsets.start in
    let to = p.pair.lens.start in
    let one = table_is file q len at (w * n) big w n (All-at (Holds file) pieces p.offsets q holds is.offsets.1) is.offsets.2 (omega arith) in
    let two = table_is file r len to (v * n) big v n (All-at (Holds file) pieces p.lens r holds is.lens.1) is.lens.2 (omega arith) in
    ap (λ (o : Option Piece). ranges place (numbers big w (w * 0) (n - 0) (bytes_by o at)) (numbers big v (v * 0) (n - 0) (bytes_by (slice_get pieces p.lens) to))) is.offsets.1
    ∙ ap (λ (o : Option Piece). ranges place (numbers big w (w * 0) (n - 0) (bytes_by (Some q) at)) (numbers big v (v * 0) (n - 0) (bytes_by o to))) is.lens.1
    ∙ ap (λ (t : List ℕ). ranges place t (numbers big v (v * 0) (n - 0) (bytes_by (Some r) to))) one
    ∙ ap (ranges place (numbers big w at n file)) two

kept_spans : (file : List ℕ) (big : Bool) (len : ℕ) (pieces : List Piece) (list : List CountedPair) → All (Holds file) pieces → All (IsCounted big len pieces) list
    → spans_by big pieces list ≡ spans_in big file (map (λ c. c.placed.pair) list)
unfolding spans_by spans_in
kept_spans file big len pieces [] holds all = refl
kept_spans file big len pieces (c ∷ cs) holds all =
    let here = placed_ranges file big len pieces c.placed holds (All-head (IsCounted big len pieces) c cs all).placed in
    let rest = kept_spans file big len pieces cs holds (All-tail (IsCounted big len pieces) c cs all) in
    ap (λ (t : List Picture). spans_of t ++ flat_map (λ (x : CountedPair). spans_of (ranges_by big pieces x.placed)) cs) here
    ∙ ap (λ (t : List FileSpan). spans_of (ranges_in big file c.placed.pair) ++ t) rest

-- the pairs that are kept name what the pairs of the file do
pub kept_are : (file : List ℕ) (big : Bool) (len : ℕ) (pieces : List Piece) (list : List CountedPair) (pairs : List Pair) → All (Holds file) pieces → All (IsCounted big len pieces) list
    → map (λ c. c.placed.pair) list ≡ pairs → spans_by big pieces list ≡ spans_in big file pairs
kept_are file big len pieces list pairs holds all e = kept_spans file big len pieces list holds all ∙ ap (spans_in big file) e

pub spans_none : (big : Bool) (file : List ℕ) → spans_in big file [] ≡ []
unfolding spans_in
spans_none big file = refl

pub spans_more : (big : Bool) (file : List ℕ) (old : List Pair) (p : Pair) (new : List Pair) → new ≡ old ++ p ∷ [] → spans_in big file new ≡ spans_in big file old ++ spans_of (ranges_in big file p)
unfolding spans_in
spans_more big file old p new e =
    ap (flat_map (λ (x : Pair). spans_of (ranges_in big file x))) e ∙ sym (flat_map_more (λ (x : Pair). spans_of (ranges_in big file x)) [] old p)

abbrev pub table_as : Layout → Entry → Table
table_as l e = record { start = e.value.start; width = size_of l e.code }

abbrev pub pair_with : Entry → Table → Table → Pair
pair_with o a b = record { place = o.place; offsets = a; lens = b; count = o.count }

-- the pair of two entries
abbrev pub pair_as : Layout → Entry → Entry → Pair
pair_as l o n = pair_with o (table_as l o) (table_as l n)

pub pair_by : (l : Layout) (o n : Entry) (a b : Table) → a ≡ table_as l o → b ≡ table_as l n → pair_with o a b ≡ pair_as l o n
pair_by l o n a b e d = ap (λ (t : Table). pair_with o t b) e ∙ ap (pair_with o (table_as l o)) d

module _ (l : Layout) (file : List ℕ) (o n : Entry) (p : Pair) (is : p ≡ pair_as l o n) (paired : are_paired l o n ≡ true) where
  same_count : o.count ≡ n.count
  same_count = paired_count l o n paired

  abbrev named : List Picture
  named = ranges o.place (items_of l file o) (items_of l file n)

  pub tables_name : ranges_in l.big file p ≡ named
  unfolding ranges_in
  tables_name =
      ap (ranges_in l.big file) is
      ∙ ap (λ (k : ℕ). ranges o.place (items_of l file o) (numbers l.big (size_of l n.code) n.value.start k file)) same_count

  pub tables_list : (a b : List ℕ) → numbers l.big (size_of l o.code) 0 o.count a ≡ items_of l file o
      → numbers l.big (size_of l n.code) 0 o.count b ≡ numbers l.big (size_of l n.code) n.value.start o.count file → ranges_from l.big p a b 0 ≡ named
  unfolding ranges_from
  tables_list a b one two =
      let w = size_of l o.code in
      let v = size_of l n.code in
      let z : w * 0 ≡ 0 = omega arith in
      let y : v * 0 ≡ 0 = omega arith in
      let m : o.count - 0 ≡ o.count = omega arith in
      ap (λ (q : Pair). ranges_from l.big q a b 0) is
      ∙ ap (λ (k : ℕ). ranges o.place (numbers l.big w (w * 0) k a) (numbers l.big v (v * 0) k b)) m
      ∙ ap (λ (k : ℕ). ranges o.place (numbers l.big w k o.count a) (numbers l.big v (v * 0) o.count b)) z
      ∙ ap (λ (k : ℕ). ranges o.place (numbers l.big w 0 o.count a) (numbers l.big v k o.count b)) y
      ∙ ap (λ (t : List ℕ). ranges o.place t (numbers l.big v 0 o.count b)) one
      ∙ ap (ranges o.place (items_of l file o)) (two ∙ ap (λ (k : ℕ). numbers l.big v n.value.start k file) same_count)
