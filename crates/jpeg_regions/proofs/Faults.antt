-- A file has one list or one first fault.
use Rattle.std.proofs.Common.{◌≡◌, ◌≢◌, inl, inr, ℕ, zero, suc, ◌+◌, ◌*◌, ◌<◌, ◌≤◌, Bool, true, false, cond, nat_lt, ◌==◌, List, [], ◌∷◌, ◌++◌, length, replicate, refl, sym, ap, subst, ◌∙◌, arith, append_assoc, Some}
use Rattle.std.specs.Prelude.{flat_map, slice_get}
use Rattle.std.specs.Option.{option_map}
use Rattle.std.specs.List.{AllByRecursion}
use Rattle.std.proofs.lemmas.List.{append-nil, length-append}
use Rattle.std.proofs.lemmas.Bool.{ne_eqb}
use Rattle.std.proofs.lemmas.Bool.Decides.{nat_tests}
use Rattle.xmp_values.specs.declared.rules.Rule.{Rule}
use Rattle.xmp_values.specs.declared.rules.Rule.TheVariants.{BadMarker, BadLength, Truncated, NoTail}
use Rattle.jpeg_regions.specs.declared.marker.Class.{Class}
use Rattle.jpeg_regions.specs.declared.marker.Class.TheVariants.{Fill, Refused, Single, Last, Sized}
use Rattle.jpeg_regions.specs.Markers.{class_of}
use Rattle.jpeg_regions.specs.Jpeg.{Segment, Region, text, placed, IsInner, IsTail, HasLength, IsShort, IsLow, Begins, Breaks, ended, unmarked, refused, low, filling, short, Cuts, Jpeg, Broken, SecondMain, FirstFault, mains}
use Rattle.jpeg_regions.proofs.Kept.{join_push}
use Rattle.jpeg_regions.proofs.Unique.{IsSegment, run_unique, run_ends, not_fill, sized_not_fill, refused_not_fill, inner_class, marker_ends, text-append, first_same, no_tail_here, tails_same, begins_list}

-- the rule that is broken where no segment stands, found from the first byte on
is_low : List ℕ → Bool
is_low [] = false
is_low (high ∷ []) = false
is_low (high ∷ low' ∷ payload) = nat_lt (256 * high + low') 2

rule_at : Class → List ℕ → Rule
rule_at Fill more = BadMarker
rule_at Refused more = BadMarker
rule_at Single more = BadMarker
rule_at Last more = BadMarker
rule_at Sized more = cond (is_low more) BadLength Truncated

rule_of : Bool → List ℕ → Rule
rule_of false [] = NoTail
rule_of true [] = Truncated
rule_of seen (c ∷ more) = cond (c == 0xFF) (rule_of true more) (cond seen (rule_at (class_of c) more) BadMarker)

rule_run : (f : ℕ) (x : List ℕ) → rule_of true (replicate f 0xFF ++ x) ≡ rule_of true x
unfolding rule_of
rule_run zero x = refl
rule_run (suc f) x = rule_run f x

rule_filled : (f : ℕ) (x : List ℕ) → 0 < f → rule_of false (replicate f 0xFF ++ x) ≡ rule_of true x
unfolding rule_of
rule_filled zero x h = absurd (omega arith)
rule_filled (suc f) x h = rule_run f x

rule_marked : (m : ℕ) (more : List ℕ) → m ≢ 0xFF → rule_of true (m ∷ more) ≡ rule_at (class_of m) more
unfolding rule_of
rule_marked m more h = ap (λ (b : Bool). cond b (rule_of true more) (rule_at (class_of m) more)) (ne_eqb m 0xFF h)

rule_begins : (rest body : List ℕ) (class : Class) → Begins rest class body → class ≢ Fill → rule_of false rest ≡ rule_at class body
rule_begins rest body class b h =
    ap (rule_of false) b.bytes ∙ rule_filled b.fill (b.marker ∷ body) b.filled ∙ rule_marked b.marker body (not_fill b.marker class b.classed h)
    ∙ ap (λ (c : Class). rule_at c body) b.classed

low_test : (body : List ℕ) → IsLow body → is_low body ≡ true
unfolding is_low
low_test [] h = absurd h
low_test (c ∷ []) h = absurd h
low_test (c ∷ d ∷ p) h = grind (arith, nat_tests)

short_test : (body : List ℕ) → IsShort body → is_low body ≡ false
unfolding is_low
short_test [] h = refl
short_test (c ∷ []) h = refl
short_test (c ∷ d ∷ p) h = let k : 2 ≤ 256 * c + d = h.0 in grind (arith, nat_tests)

rule_here : (rest : List ℕ) (rule : Rule) → Breaks rest rule → rule_of false rest ≡ rule
unfolding rule_of rule_at
rule_here rest _ (ended e) = ap (rule_of false) e
rule_here rest _ (unmarked c more e h) = ap (rule_of false) e ∙ ap (λ (b : Bool). cond b (rule_of true more) BadMarker) (ne_eqb c 0xFF h)
rule_here rest _ (refused body b) = rule_begins rest body Refused b refused_not_fill
rule_here rest _ (low body b h) = rule_begins rest body Sized b sized_not_fill ∙ ap (λ (t : Bool). cond t BadLength Truncated) (low_test body h)
rule_here rest _ (filling fill h e) = ap (rule_of false) (e ∙ sym (append-nil (replicate fill 0xFF))) ∙ rule_filled fill [] h
rule_here rest _ (short body b h) = rule_begins rest body Sized b sized_not_fill ∙ ap (λ (t : Bool). cond t BadLength Truncated) (short_test body h)

-- where a segment begins no rule is broken
begun : (rest body x : List ℕ) (class : Class) (s : Segment) → Begins rest class body → class ≢ Fill → IsSegment s → rest ≡ text s ++ x
    → (class_of s.marker ≡ class) × (s.body ++ x ≡ body)
begun rest body x class s b h i e =
    let r = run_unique b.fill s.fill b.marker s.marker body (s.body ++ x) (not_fill b.marker class b.classed h) (marker_ends s i) (sym b.bytes ∙ e ∙ text-append s x) in
    (ap class_of (sym r.1) ∙ b.classed, sym r.2)

not_refused : (s : Segment) → IsSegment s → class_of s.marker ≡ Refused → ⊥
not_refused s (inl i) e = elim (inner_class s i) [ inl a ↦ let k : Single ≡ Refused = sym a.0 ∙ e in cc | inr a ↦ let k : Sized ≡ Refused = sym a.0 ∙ e in cc ]
not_refused s (inr t) e = let k : Last ≡ Refused = sym t.last ∙ e in cc

pub sized_body : (s : Segment) → IsSegment s → class_of s.marker ≡ Sized → HasLength s.body
sized_body s (inl i) e = elim (inner_class s i) [ inl a ↦ let k : Single ≡ Sized = sym a.0 ∙ e in absurd (cc) | inr a ↦ a.1 ]
sized_body s (inr t) e = let k : Last ≡ Sized = sym t.last ∙ e in absurd (cc)

not_low : (body x : List ℕ) → HasLength body → IsLow (body ++ x) → ⊥
not_low [] x h l = h
not_low (c ∷ []) x h l = h
not_low (c ∷ d ∷ p) x h l = absurd (omega arith)

not_short : (body x : List ℕ) → HasLength body → IsShort (body ++ x) → ⊥
not_short [] x h l = h
not_short (c ∷ []) x h l = h
not_short (c ∷ d ∷ p) x h l = let k : length (p ++ x) + 2 < 256 * c + d = l.1 in absurd (omega (arith, length-append p x))

filled : (s : Segment) → IsSegment s → 0 < s.fill
filled s (inl i) = i.filled
filled s (inr t) = t.filled

first_ff : (f : ℕ) (x more : List ℕ) (c : ℕ) → 0 < f → replicate f 0xFF ++ x ≡ c ∷ more → c ≡ 0xFF
first_ff zero x more c h e = absurd (omega arith)
first_ff (suc f) x more c h e = cc

no_segment : (rest : List ℕ) (rule : Rule) (s : Segment) (x : List ℕ) → Breaks rest rule → IsSegment s → rest ≡ text s ++ x → ⊥
no_segment rest _ s x (ended e) i h =
    let k : text s ++ x ≡ [] = sym h ∙ e in absurd (omega (arith, ap length k, length-append (text s) x, length-append (replicate s.fill 0xFF) (s.marker ∷ s.body)))
no_segment rest _ s x (unmarked c more e n) i h = n (first_ff s.fill (s.marker ∷ (s.body ++ x)) more c (filled s i) (sym (text-append s x) ∙ sym h ∙ e))
no_segment rest _ s x (refused body b) i h = not_refused s i (begun rest body x Refused s b refused_not_fill i h).0
no_segment rest _ s x (low body b l) i h =
    let r = begun rest body x Sized s b sized_not_fill i h in not_low s.body x (sized_body s i r.0) (subst IsLow (sym r.1) l)
no_segment rest _ s x (filling fill f e) i h = run_ends fill s.fill s.marker (s.body ++ x) (marker_ends s i) (sym e ∙ h ∙ text-append s x)
no_segment rest _ s x (short body b l) i h =
    let r = begun rest body x Sized s b sized_not_fill i h in not_short s.body x (sized_body s i r.0) (subst IsShort (sym r.1) l)

-- one list
pub cuts_same : (file : List ℕ) (ls ms : List Region) → Cuts file ls → Cuts file ms → ls ≡ ms
cuts_same file ls ms a b =
    let e : flat_map text a.segments ++ text a.tail ≡ flat_map text (b.segments ++ b.tail ∷ []) =
    (let k : flat_map text (a.segments ++ a.tail ∷ []) ≡ flat_map text (b.segments ++ b.tail ∷ []) = (let j = sym a.bytes ∙ b.bytes in cc) in
    sym (join_push a.segments a.tail) ∙ k) in
    let r = begins_list a.segments b.segments b.tail (text a.tail) a.inner b.inner b.last e in
    let t = last_same r.0 b.tail a.tail (all_after a.segments r.0 (subst (AllByRecursion IsInner) r.1 b.inner)) b.last a.last r.2 in
    a.listed ∙ ap (placed 2) (ap (λ (ss : List Segment). ss ++ a.tail ∷ []) (sym (append-nil a.segments) ∙ ap (λ (ss : List Segment). a.segments ++ ss) (sym t.0) ∙ sym r.1)
    ∙ ap (λ (s : Segment). b.segments ++ s ∷ []) t.1) ∙ sym b.listed
  where
    all_after : (ss mid : List Segment) → AllByRecursion IsInner (ss ++ mid) → AllByRecursion IsInner mid
    all_after [] mid h = h
    all_after (s ∷ ss) mid h = all_after ss mid h.1

    last_same : (mid : List Segment) (t u : Segment) → AllByRecursion IsInner mid → IsTail t → IsTail u → text u ≡ flat_map text (mid ++ t ∷ []) → (mid ≡ []) × (u ≡ t)
    last_same [] t u a b c e = (refl, tails_same u t c b (e ∙ append-nil (text t)))
    last_same (m ∷ mid) t u a b c e = absurd (no_tail_here m u (flat_map text (mid ++ t ∷ [])) [] a.0 c (sym e ∙ sym (append-nil (text u))))

-- no list beside a broken segment
pub broken_not_cut : (file : List ℕ) (rule : Rule) (place : ℕ) (ls : List Region) → Broken file rule place → Cuts file ls → ⊥
broken_not_cut file rule place ls a b =
    let e : flat_map text a.segments ++ a.rest ≡ flat_map text (b.segments ++ b.tail ∷ []) = (let j = sym a.bytes ∙ b.bytes in cc) in
    let r = begins_list a.segments b.segments b.tail a.rest a.inner b.inner b.last e in
    after r.0 (all_after a.segments r.0 (subst (AllByRecursion IsInner) r.1 b.inner)) r.2
  where
    all_after : (ss mid : List Segment) → AllByRecursion IsInner (ss ++ mid) → AllByRecursion IsInner mid
    all_after [] mid h = h
    all_after (s ∷ ss) mid h = all_after ss mid h.1

    after : (mid : List Segment) → AllByRecursion IsInner mid → a.rest ≡ flat_map text (mid ++ b.tail ∷ []) → ⊥
    after [] h e = no_segment a.rest rule b.tail [] a.breaks (inr b.last) e
    after (m ∷ mid) h e = no_segment a.rest rule m (flat_map text (mid ++ b.tail ∷ [])) a.breaks (inl h.0) e

-- one place where the list breaks
rests_same : (ss ts : List Segment) (x y : List ℕ) (r q : Rule) → AllByRecursion IsInner ss → AllByRecursion IsInner ts → Breaks x r → Breaks y q
    → flat_map text ss ++ x ≡ flat_map text ts ++ y → (x ≡ y) × (ss ≡ ts)
rests_same [] [] x y r q a b c d e = (e, refl)
rests_same [] (t ∷ ts) x y r q a b c d e = absurd (no_segment x r t (flat_map text ts ++ y) c (inl b.0) (e ∙ append_assoc (text t) (flat_map text ts) y))
rests_same (s ∷ ss) [] x y r q a b c d e = absurd (no_segment y q s (flat_map text ss ++ x) d (inl a.0) (sym e ∙ append_assoc (text s) (flat_map text ss) x))
rests_same (s ∷ ss) (t ∷ ts) x y r q a b c d e =
    let f = first_same s t (flat_map text ss ++ x) (flat_map text ts ++ y) a.0 b.0 (sym (append_assoc (text s) (flat_map text ss) x) ∙ e ∙ append_assoc (text t) (flat_map text ts) y) in
    let k = rests_same ss ts x y r q a.1 b.1 c d f.1 in
    (k.0, ap (λ (v : Segment). v ∷ ss) f.0 ∙ ap (λ (vs : List Segment). t ∷ vs) k.1)

broken_same : (file : List ℕ) (r q : Rule) (m n : ℕ) → Broken file r m → Broken file q n → (r ≡ q) × (m ≡ n)
broken_same file r q m n a b =
    let e : flat_map text a.segments ++ a.rest ≡ flat_map text b.segments ++ b.rest = (let j = sym a.bytes ∙ b.bytes in cc) in
    let k = rests_same a.segments b.segments a.rest b.rest r q a.inner b.inner a.breaks b.breaks e in (
      sym (rule_here a.rest r a.breaks) ∙ ap (rule_of false) k.0 ∙ rule_here b.rest q b.breaks,
      a.start ∙ ap (λ (ss : List Segment). 2 + length (flat_map text ss)) k.1 ∙ sym b.start,
    )

second_same : (file : List ℕ) (r q : Rule) (m n : ℕ) → SecondMain file r m → SecondMain file q n → (r ≡ q) × (m ≡ n)
second_same file r q m n a b =
    let k = ap (λ rs. option_map (λ x. x.range.start) (slice_get (mains rs) 1)) (cuts_same file a.regions b.regions a.cuts b.cuts) in
    let j : Some m ≡ Some n = sym a.second ∙ k ∙ b.second in
    (a.named ∙ sym b.named, cc)

pub fault_same : (file : List ℕ) (r q : Rule) (m n : ℕ) → FirstFault file r m → FirstFault file q n → (r ≡ q) × (m ≡ n)
fault_same file r q m n (inl a) (inl b) = broken_same file r q m n a b
fault_same file r q m n (inl a) (inr b) = absurd (broken_not_cut file r m b.regions a b.cuts)
fault_same file r q m n (inr a) (inl b) = absurd (broken_not_cut file q n a.regions b a.cuts)
fault_same file r q m n (inr a) (inr b) = second_same file r q m n a b

no_second : (rs : List Region) (n : ℕ) → length rs ≤ 1 → option_map (λ (x : Region). x.range.start) (slice_get rs 1) ≡ Some n → ⊥
no_second [] n h e = cc
no_second (x ∷ []) n h e = cc
no_second (x ∷ y ∷ rs) n h e = absurd (omega arith)

-- a list or a fault
pub list_or_fault : (file : List ℕ) (ls : List Region) (r : Rule) (m : ℕ) → Jpeg file ls → FirstFault file r m → ⊥
list_or_fault file ls r m a (inl b) = broken_not_cut file r m ls b a.cuts
list_or_fault file ls r m a (inr b) =
    no_second (mains ls) m a.one (ap (λ rs. option_map (λ (x : Region). x.range.start) (slice_get (mains rs) 1)) (cuts_same file ls b.regions a.cuts b.cuts) ∙ b.second)
