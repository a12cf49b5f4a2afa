-- The least of the ranges that meet another, gone over once.
use Rattle.std.proofs.Common.{◌≡◌, ◌≢◌, Err, ℕ, suc, ◌+◌, ◌-◌, ◌<◌, ◌≤◌, inl, inr, ◌==◌, Bool, true, false, if◌then◌else◌, List, [], ◌∷◌, ◌++◌, length, get_or, take, drop, refl, sym, ap, subst, ◌∙◌, arith, Some, None, append_assoc, All, Contains}
use Rattle.std.specs.declared.option.Option.{Option}
use Rattle.std.specs.List.{flat_map, slice_get}
use Rattle.std.specs.Option.{option_map}
use Rattle.std.proofs.lemmas.List.{append-nil, take_all, drop_more, length-drop}
use Rattle.std.proofs.lemmas.List.Elements.{All-nil, All-push, All-weaker, All-contains, Contains-append_left, Contains-append_right}
use Rattle.std.proofs.lemmas.Option.{slice_get_within, get_or_from_slice_get, slice_get-get_or}
use Rattle.std.proofs.lemmas.Grind.{flat_map-append}
use Rattle.std.proofs.lemmas.Bool.Decides.{nat_tests}
use Rattle.xmp_base.specs.declared.file_span.FileSpan.{FileSpan}
use Rattle.tiff_dirs.specs.declared.layout.Layout.{Layout}
use Rattle.tiff_dirs.specs.declared.entry.Entry.{Entry}
use Rattle.tiff_dirs.specs.declared.stop.TiffStop.{TiffStop}
use Rattle.tiff_dirs.specs.declared.stop.TiffStop.TheVariants.{Fault, Memory}
use Rattle.tiff_dirs.specs.Pictures.{first_of_tag}
use Rattle.tiff_dirs.specs.Model.{Found}
use Rattle.tiff_dirs.specs.Tables.{walk_stop}
use Rattle.tiff_dirs.specs.FromDesk.{WalkFromAnswer}
use Rattle.std.proofs.lemmas.List.Folds.{find_at}
use Rattle.tiff_dirs.specs.Directories.{span}
use Rattle.tiff_dirs.specs.Tiff.{Dir, Tiff, entries_in, first_entry}
use Rattle.tiff_dirs.specs.Overlaps.{Meets, Before, apart_of, dir_span, named_in, place_of, without, others_in, others, own_of, own, Met, Clear, overlap, Overlaps, NoOverlap}
use Rattle.tiff_dirs.specs.Nearest.{meets, comes_before, lesser, closer, closest, Best, MeetingAnswer}

-- the tests are the relations
met_true : (a b : FileSpan) → meets a b ≡ true → Meets a b
met_true a b h = (grind (arith, nat_tests), grind (arith, nat_tests))

met_false : (a b : FileSpan) → meets a b ≡ false → Meets a b → ⊥
met_false a b h m = let i = m.0 in let j = m.1 in grind (arith, nat_tests)

before_true : (a b : FileSpan) → comes_before a b ≡ true → Before a b
before_true a b h = grind (arith, nat_tests)

before_false : (a b : FileSpan) → comes_before a b ≡ false → Before b a
before_false a b h = grind (arith, nat_tests)

before_trans : (a b c : FileSpan) → Before a b → Before b c → Before a c
before_trans a b c (inl h) (inl i) = inl (omega arith)
before_trans a b c (inl h) (inr i) = let j = i.0 in inl (omega arith)
before_trans a b c (inr h) (inl i) = let j = h.0 in inl (omega arith)
before_trans a b c (inr h) (inr i) = let j = h.0 in let k = i.0 in let m = h.1 in let n = i.1 in inr (omega arith, omega arith)

last_one : (xs : List FileSpan) (x : FileSpan) → Contains (xs ++ x ∷ []) x
last_one xs x = Contains-append_right xs (x ∷ []) x (0, omega arith, refl)

module _ (mine : FileSpan) where
  -- one range more
  best_met : (seen : List FileSpan) (best : Option FileSpan) (r : FileSpan) → Meets mine r → Best mine seen best → Best mine (seen ++ r ∷ []) (Some (lesser best r))
  best_met seen None r m b = (
    last_one seen r,
    m,
    All-push (λ s. Meets mine s → Before r s) seen r (All-weaker (λ s. Meets mine s → ⊥) (λ s. Meets mine s → Before r s) (λ s h n. absurd (h n)) seen b) (λ n. inr (refl, omega arith)),
  )
  best_met seen (Some best) r m b = best_by (comes_before best r) refl where
    best_by : (t : Bool) → comes_before best r ≡ t → Best mine (seen ++ r ∷ []) (Some (if t then best else r))
    best_by true e = (
      Contains-append_left seen (r ∷ []) best b.0,
      b.1,
      All-push (λ s. Meets mine s → Before best s) seen r b.2 (λ n. before_true best r e),
    )
    best_by false e = (
      last_one seen r,
      m,
      All-push (λ s. Meets mine s → Before r s) seen r
          (All-weaker (λ s. Meets mine s → Before best s) (λ s. Meets mine s → Before r s) (λ s h n. before_trans r best s (before_false best r e) (h n)) seen b.2) (λ n. inr (refl, omega arith)),
    )

  best_past : (seen : List FileSpan) (best : Option FileSpan) (r : FileSpan) → (Meets mine r → ⊥) → Best mine seen best → Best mine (seen ++ r ∷ []) best
  best_past seen None r m b = All-push (λ s. Meets mine s → ⊥) seen r b m
  best_past seen (Some best) r m b = (
    Contains-append_left seen (r ∷ []) best b.0,
    b.1,
    All-push (λ s. Meets mine s → Before best s) seen r b.2 (λ n. absurd (m n)),
  )

  best_either : (t : Bool) (seen : List FileSpan) (best : Option FileSpan) (r : FileSpan) → meets mine r ≡ t → Best mine seen best
      → Best mine (seen ++ r ∷ []) (if t then Some (lesser best r) else best)
  best_either true seen best r e b = best_met seen best r (met_true mine r e) b
  best_either false seen best r e b = best_past seen best r (met_false mine r e) b

  best_more : (seen : List FileSpan) (best : Option FileSpan) (r : FileSpan) → Best mine seen best → Best mine (seen ++ r ∷ []) (closer mine best r)
  unfolding closer
  best_more seen best r b = best_either (meets mine r) seen best r refl b

  best_all : (seen : List FileSpan) (best : Option FileSpan) (rs : List FileSpan) → Best mine seen best → Best mine (seen ++ rs) (closest mine best rs)
  best_all seen best [] b = subst (λ (t : List FileSpan). Best mine t best) (sym (append-nil seen)) b
  best_all seen best (r ∷ rs) b =
      subst (λ (t : List FileSpan). Best mine t (closest mine (closer mine best r) rs)) (append_assoc seen (r ∷ []) rs)
      (best_all (seen ++ r ∷ []) (closer mine best r) rs (best_more seen best r b))

  pub best_of : (rs : List FileSpan) → Best mine rs (closest mine None rs)
  best_of rs = best_all [] None rs (All-nil (λ r. Meets mine r → ⊥))

  pub closest_append : (best : Option FileSpan) (xs ys : List FileSpan) → closest mine best (xs ++ ys) ≡ closest mine (closest mine best xs) ys
  closest_append best [] ys = refl
  closest_append best (x ∷ xs) ys = closest_append (closer mine best x) xs ys

-- what stands at a place, and the rest
pub drop_at : {X : Type 0} (xs : List X) (i : ℕ) (x : X) → slice_get xs i ≡ Some x → drop i xs ≡ x ∷ drop (i + 1) xs
drop_at xs i x e = drop_more xs i x (slice_get_within xs i x e) ∙ ap (λ y. y ∷ drop (i + 1) xs) (get_or_from_slice_get xs i x x e)

range_front : {X : Type 0} (xs : List X) (i to : ℕ) (x : X) → slice_get xs i ≡ Some x → i < to → take (to - i) (drop i xs) ≡ x ∷ take (to - (i + 1)) (drop (i + 1) xs)
range_front xs i to x e h =
    let n : to - i ≡ suc (to - (i + 1)) = omega arith in
    ap (take (to - i)) (drop_at xs i x e) ∙ ap (λ (k : ℕ). take k (x ∷ drop (i + 1) xs)) n

module _ (mine : FileSpan) (f : Entry → List FileSpan) where
  -- an entry, and those after it up to a place
  pub values_more : (best next : Option FileSpan) (es : List Entry) (i to : ℕ) (e : Entry) → slice_get es i ≡ Some e → i < to → next ≡ closest mine best (f e)
      → closest mine next (flat_map f (take (to - (i + 1)) (drop (i + 1) es))) ≡ closest mine best (flat_map f (take (to - i) (drop i es)))
  values_more best next es i to e at h is =
      let rest = take (to - (i + 1)) (drop (i + 1) es) in
      ap (λ (b : Option FileSpan). closest mine b (flat_map f rest)) is
      ∙ sym (closest_append mine best (f e) (flat_map f rest))
      ∙ ap (λ (t : List Entry). closest mine best (flat_map f t)) (sym (range_front es i to e at h))

  -- none is left
  pub values_none : (best : Option FileSpan) (es : List Entry) (i to : ℕ) → to ≤ i → best ≡ closest mine best (flat_map f (take (to - i) (drop i es)))
  values_none best es i to h = let e : to - i ≡ 0 = omega arith in ap (λ (n : ℕ). closest mine best (flat_map f (take n (drop i es)))) (sym e)

whole_range : (es : List Entry) (n : ℕ) → n ≡ length es → take (n - 0) (drop 0 es) ≡ es
whole_range es n e = take_all (n - 0) es (omega arith)

module _ (mine : FileSpan) (l : Layout) where
  -- a directory, and those after it
  pub dirs_more : (best mid next : Option FileSpan) (ds : List Dir) (i n : ℕ) (s : FileSpan) → i < length ds → option_map dir_span (slice_get ds i) ≡ Some s
      → n ≡ length (entries_in (slice_get ds i)) → mid ≡ closer mine best s
      → next ≡ closest mine mid (flat_map (apart_of l) (take (n - 0) (drop 0 (entries_in (slice_get ds i)))))
      → closest mine next (flat_map (λ d. named_in l d d.entries) (drop (i + 1) ds)) ≡ closest mine best (flat_map (λ d. named_in l d d.entries) (drop i ds))
  dirs_more best mid next ds i n s h at count a b =
      let d = get_or ds i (record { at = 0; end = 0; entries = [] }) in
      let is : slice_get ds i ≡ Some d = slice_get-get_or ds i (record { at = 0; end = 0; entries = [] }) h in
      let here : Some (dir_span d) ≡ Some s = sym (ap (option_map dir_span) is) ∙ at in
      let spans : dir_span d ≡ s = (cc here) in
      let sized : n ≡ length d.entries = count ∙ ap (λ (o : Option Dir). length (entries_in o)) is in
      let rest = flat_map (λ (e : Dir). named_in l e e.entries) (drop (i + 1) ds) in
      let named : next ≡ closest mine best (named_in l d d.entries) =
      b ∙ ap (λ (o : Option Dir). closest mine mid (flat_map (apart_of l) (take (n - 0) (drop 0 (entries_in o))))) is
      ∙ ap (λ (t : List Entry). closest mine mid (flat_map (apart_of l) t)) (whole_range d.entries n sized)
      ∙ ap (λ (m : Option FileSpan). closest mine m (flat_map (apart_of l) d.entries)) (a ∙ ap (closer mine best) (sym spans)) in
      ap (λ (m : Option FileSpan). closest mine m rest) named
      ∙ sym (closest_append mine best (named_in l d d.entries) rest)
      ∙ ap (λ (t : List Dir). closest mine best (flat_map (λ (e : Dir). named_in l e e.entries) t)) (sym (drop_at ds i d is))

  -- all named ranges, in the order in which they are gone over
  pub whole : (tag : ℕ) (dirs : List Dir) (pictures : List FileSpan) (a b c d e f : Option FileSpan) (header s : FileSpan) (first n : ℕ) → 0 < length dirs
      → header ≡ span 0 l.header → a ≡ closer mine None header
      → option_map dir_span (slice_get dirs 0) ≡ Some s → b ≡ closer mine a s
      → first ≡ place_of tag (entries_in (slice_get dirs 0)) → c ≡ closest mine b (flat_map (apart_of l) (take (first - 0) (drop 0 (entries_in (slice_get dirs 0)))))
      → n ≡ length (entries_in (slice_get dirs 0))
      → d ≡ closest mine c (flat_map (apart_of l) (take (n - (first + 1)) (drop (first + 1) (entries_in (slice_get dirs 0)))))
      → e ≡ closest mine d (flat_map (λ x. named_in l x x.entries) (drop 1 dirs)) → f ≡ closest mine e pictures
      → f ≡ closest mine None (others_in l tag dirs pictures)
  whole tag [] pictures a b c d e f header s first n h hh ha hs hb hp hc hn hd he hf = absurd (omega arith)
  whole tag (x ∷ xs) pictures a b c d e f header s first n h hh ha hs hb hp hc hn hd he hf =
      let es = x.entries in
      let spans : dir_span x ≡ s = (cc hs) in
      let front : take (first - 0) es ≡ take (place_of tag es) es = (let k : first - 0 ≡ place_of tag es = omega (arith, hp) in ap (λ (j : ℕ). take j es) k) in
      let back : take (n - (first + 1)) (drop (first + 1) es) ≡ drop (place_of tag es + 1) es =
      take_all (n - (first + 1)) (drop (first + 1) es) (let q = length-drop (first + 1) es in omega (arith, q, hn)) ∙ ap (λ (j : ℕ). drop (j + 1) es) hp in
      let more = flat_map (λ (y : Dir). named_in l y y.entries) xs in
      let v1 = flat_map (apart_of l) (take (place_of tag es) es) in
      let v2 = flat_map (apart_of l) (drop (place_of tag es + 1) es) in
      let a1 : a ≡ closer mine None (span 0 l.header) = ha ∙ ap (closer mine None) hh in
      let b1 : b ≡ closer mine (closer mine None (span 0 l.header)) (dir_span x) = hb ∙ ap (closer mine a) (sym spans) ∙ ap (λ (o : Option FileSpan). closer mine o (dir_span x)) a1 in
      let c1 : c ≡ closest mine b v1 = hc ∙ ap (λ (t : List Entry). closest mine b (flat_map (apart_of l) t)) front in
      let d1 : d ≡ closest mine c v2 = hd ∙ ap (λ (t : List Entry). closest mine c (flat_map (apart_of l) t)) back in
      hf ∙ ap (λ (o : Option FileSpan). closest mine o pictures) (he ∙ ap (λ (o : Option FileSpan). closest mine o more) (d1 ∙ ap (λ (o : Option FileSpan). closest mine o v2) c1))
      ∙ sym (closest_append mine (closest mine (closest mine b v1) v2) more pictures)
      ∙ sym (closest_append mine (closest mine b v1) v2 (more ++ pictures))
      ∙ sym (closest_append mine b v1 (v2 ++ (more ++ pictures)))
      ∙ ap (closest mine b) (sym (append_assoc v1 v2 (more ++ pictures)) ∙ ap (λ (t : List FileSpan). t ++ (more ++ pictures)) (sym (flat_map-append (apart_of l) (take (place_of tag es) es) (drop (place_of tag es + 1) es))))
      ∙ ap (λ (o : Option FileSpan). closest mine o (flat_map (apart_of l) (without tag es) ++ (more ++ pictures))) b1

-- where there is such a value, its entry stands among those of the first directory
pub own_stands : (l : Layout) (tag : ℕ) (dirs : List Dir) (value : FileSpan) → own_of l (first_entry tag dirs) ≡ Some value
    → place_of tag (entries_in (slice_get dirs 0)) < length (entries_in (slice_get dirs 0))
own_stands l tag [] value e = absurd (cc e)
own_stands l tag (d ∷ ds) value e = stands_by (first_of_tag tag d.entries) (find_at (λ x. x.tag == tag) d.entries) e where
  stands_by : (o : Option Entry) → o ≡ slice_get d.entries (place_of tag d.entries) → own_of l o ≡ Some value → place_of tag d.entries < length d.entries
  stands_by None a b = absurd (cc b)
  stands_by (Some x) a b = slice_get_within d.entries (place_of tag d.entries) x (sym a)

-- the first of a tag, by what is left
pub place_here : (tag : ℕ) (es : List Entry) (i : ℕ) (e : Entry) → slice_get es i ≡ Some e → e.tag ≡ tag → i + place_of tag (drop i es) ≡ place_of tag es → i ≡ place_of tag es
place_here tag es i e at h inv =
    let here : place_of tag (drop i es) ≡ place_of tag (e ∷ drop (i + 1) es) = ap (place_of tag) (drop_at es i e at) in
    let none : place_of tag (e ∷ drop (i + 1) es) ≡ 0 = grind (arith, nat_tests, h) in
    omega (arith, here, none, inv)

pub place_after : (tag : ℕ) (es : List Entry) (i : ℕ) (e : Entry) → slice_get es i ≡ Some e → e.tag ≢ tag → i + place_of tag (drop i es) ≡ place_of tag es
    → i + 1 + place_of tag (drop (i + 1) es) ≡ place_of tag es
place_after tag es i e at h inv =
    let here : place_of tag (drop i es) ≡ place_of tag (e ∷ drop (i + 1) es) = ap (place_of tag) (drop_at es i e at) in
    let one : place_of tag (e ∷ drop (i + 1) es) ≡ 1 + place_of tag (drop (i + 1) es) = grind (arith, nat_tests, h) in
    omega (arith, here, one, inv)

-- a picture, and those after it
pub pictures_more : (mine : FileSpan) (best next : Option FileSpan) (ps : List FileSpan) (i : ℕ) (p : FileSpan) → slice_get ps i ≡ Some p → next ≡ closer mine best p
    → closest mine next (drop (i + 1) ps) ≡ closest mine best (drop i ps)
pictures_more mine best next ps i p at e =
    ap (λ (b : Option FileSpan). closest mine b (drop (i + 1) ps)) e ∙ ap (closest mine best) (sym (drop_at ps i p at))

pub own_none : (l : Layout) (tag : ℕ) (dirs : List Dir) → length dirs ≡ 0 → own_of l (first_entry tag dirs) ≡ None
own_none l tag [] h = refl
own_none l tag (d ∷ ds) h = absurd (omega arith)

pub clear_none : (tag : ℕ) (tiff : Tiff) → own tag tiff ≡ None → Clear tag tiff
clear_none tag tiff e = record { clear = λ value is. absurd (cc (e, is)) }

pub overlapped_answer : (file : List ℕ) (tiff : Tiff) (stop : TiffStop) → Found file tiff → Overlaps tiff stop → WalkFromAnswer file (Err (walk_stop stop))
overlapped_answer file tiff (Fault rule place x y) f o = inr (inr (record { tiff = tiff; found = f; overlaps = o }))
overlapped_answer file tiff Memory f o = tt

pub answer : (tag : ℕ) (tiff : Tiff) (value : FileSpan) (best : Option FileSpan) → own tag tiff ≡ Some value → Best value (others tag tiff) best
    → MeetingAnswer tag tiff (option_map (λ other. (value, other)) best)
answer tag tiff value None is b = record {
  clear = λ v e. let same : value ≡ v = (cc (is, e)) in subst (λ (w : FileSpan). All (λ r. Meets w r → ⊥) (others tag tiff)) same b;
}
answer tag tiff value (Some other) is b = record { is_own = is; named = b.0; meets = b.1; least = b.2 }

before_same : (a b : FileSpan) → Before a b → Before b a → a ≡ b
before_same a b (inl h) (inl i) = absurd (omega arith)
before_same a b (inl h) (inr i) = let j = i.0 in absurd (omega arith)
before_same a b (inr h) (inl i) = let j = h.0 in absurd (omega arith)
before_same a b (inr h) (inr i) = let e : a.end ≡ b.end = (let j = h.1 in let k = i.1 in omega arith) in ap (λ (n : ℕ). span n a.end) h.0 ∙ ap (span b.start) e

-- two that are the least are one
met_same : (tag : ℕ) (tiff : Tiff) (v w a b : FileSpan) → Met tag tiff v a → Met tag tiff w b → overlap v a ≡ overlap w b
met_same tag tiff v w a b p q =
    let is = p.is_own in
    let also = q.is_own in
    let same : v ≡ w = (cc (is, also)) in
    let met : Meets v b = subst (λ (x : FileSpan). Meets x b) (sym same) q.meets in
    let met' : Meets w a = subst (λ (x : FileSpan). Meets x a) same p.meets in
    let one = All-contains (λ r. Meets v r → Before a r) (others tag tiff) b p.least q.named met in
    let two = All-contains (λ r. Meets w r → Before b r) (others tag tiff) a q.least p.named met' in
    ap (λ (x : FileSpan). overlap x a) same ∙ ap (overlap w) (before_same a b one two)

not_clear : (tag : ℕ) (tiff : Tiff) (v a : FileSpan) → Clear tag tiff → Met tag tiff v a → ⊥
not_clear tag tiff v a c p = All-contains (λ r. Meets v r → ⊥) (others tag tiff) a (c.clear v p.is_own) p.named p.meets

pub one_overlap : (tiff : Tiff) (a b : TiffStop) → Overlaps tiff a → Overlaps tiff b → a ≡ b
one_overlap tiff a b (inl p) (inl q) = p.3 ∙ met_same 700 tiff p.0 q.0 p.1 q.1 p.2 q.2 ∙ sym q.3
one_overlap tiff a b (inl p) (inr q) = absurd (not_clear 700 tiff p.0 p.1 q.0 p.2)
one_overlap tiff a b (inr p) (inl q) = absurd (not_clear 700 tiff q.0 q.1 p.0 q.2)
one_overlap tiff a b (inr p) (inr q) = p.1.3 ∙ met_same 34377 tiff p.1.0 q.1.0 p.1.1 q.1.1 p.1.2 q.1.2 ∙ sym q.1.3

pub clear_or_overlap : (tiff : Tiff) (stop : TiffStop) → NoOverlap tiff → Overlaps tiff stop → ⊥
clear_or_overlap tiff stop c (inl p) = not_clear 700 tiff p.0 p.1 c.0 p.2
clear_or_overlap tiff stop c (inr p) = not_clear 34377 tiff p.1.0 p.1.1 c.1 p.1.2
