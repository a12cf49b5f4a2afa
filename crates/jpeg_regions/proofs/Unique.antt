-- A file's bytes tell its segments, and why there are none.
use Rattle.std.proofs.Common.{◌≡◌, ◌≢◌, ◌⊎◌, inl, inr, ℕ, zero, suc, ◌≤◌, zero-le, List, [], ◌∷◌, ◌++◌, length, take, drop, replicate, refl, sym, ap, ◌∙◌, arith, append_assoc}
use Rattle.std.specs.Prelude.{flat_map}
use Rattle.std.specs.List.{AllByRecursion}
use Rattle.std.proofs.lemmas.List.{take_at, drop_at}
use Rattle.jpeg_regions.specs.declared.marker.Class.{Class}
use Rattle.jpeg_regions.specs.declared.marker.Class.TheVariants.{Fill, Refused, Single, Last, Sized}
use Rattle.jpeg_regions.specs.Markers.{class_of}
use Rattle.jpeg_regions.specs.Jpeg.{Segment, text, IsInner, IsTail, HasBody, HasLength}

-- FF bytes up to another byte are counted in one way
pub run_unique : (f g m n : ℕ) (x y : List ℕ) → m ≢ 0xFF → n ≢ 0xFF → replicate f 0xFF ++ m ∷ x ≡ replicate g 0xFF ++ n ∷ y → (f ≡ g) × (m ≡ n) × (x ≡ y)
run_unique zero zero m n x y a b e = (refl, cc, cc)
run_unique zero (suc g) m n x y a b e = absurd (a (cc))
run_unique (suc f) zero m n x y a b e = absurd (b (cc))
run_unique (suc f) (suc g) m n x y a b e =
    let rest : replicate f 0xFF ++ m ∷ x ≡ replicate g 0xFF ++ n ∷ y = cc in
    let r = run_unique f g m n x y a b rest in (ap suc r.0, r.1, r.2)

-- FF bytes that have been passed are no more than there are
pub run_below : (f g n : ℕ) (x y : List ℕ) → n ≢ 0xFF → replicate f 0xFF ++ x ≡ replicate g 0xFF ++ n ∷ y → f ≤ g
run_below zero g n x y b e = zero-le
run_below (suc f) zero n x y b e = absurd (b (cc))
run_below (suc f) (suc g) n x y b e =
    let rest : replicate f 0xFF ++ x ≡ replicate g 0xFF ++ n ∷ y = cc in
    let r : f ≤ g = run_below f g n x y b rest in omega arith

pub run_ends : (f g n : ℕ) (y : List ℕ) → n ≢ 0xFF → replicate f 0xFF ≡ replicate g 0xFF ++ n ∷ y → ⊥
run_ends zero zero n y b e = cc
run_ends zero (suc g) n y b e = cc
run_ends (suc f) zero n y b e = b (cc)
run_ends (suc f) (suc g) n y b e =
    let rest : replicate f 0xFF ≡ replicate g 0xFF ++ n ∷ y = cc in run_ends f g n y b rest

pub not_fill : (m : ℕ) (c : Class) → class_of m ≡ c → c ≢ Fill → m ≢ 0xFF
not_fill m c e h k = h (sym e ∙ ap class_of k)

pub single_not_fill : Single ≢ Fill
single_not_fill e = cc

pub sized_not_fill : Sized ≢ Fill
sized_not_fill e = cc

pub last_not_fill : Last ≢ Fill
last_not_fill e = cc

pub refused_not_fill : Refused ≢ Fill
refused_not_fill e = cc

-- what may stand in a file: an inner segment or a tail
abbrev pub IsSegment : Segment → Type 0
IsSegment s = IsInner s ⊎ IsTail s

by_class : (c : Class) (body : List ℕ) → HasBody c body → ((c ≡ Single) × (body ≡ [])) ⊎ ((c ≡ Sized) × HasLength body)
by_class Fill body h = absurd h
by_class Refused body h = absurd h
by_class Last body h = absurd h
by_class Single body h = inl (refl, h)
by_class Sized body h = inr (refl, h)

pub inner_class : (s : Segment) → IsInner s → ((class_of s.marker ≡ Single) × (s.body ≡ [])) ⊎ ((class_of s.marker ≡ Sized) × HasLength s.body)
inner_class s i = by_class (class_of s.marker) s.body i.body

pub marker_ends : (s : Segment) → IsSegment s → s.marker ≢ 0xFF
marker_ends s (inl i) = elim (inner_class s i) [
  | inl a ↦ not_fill s.marker Single a.0 single_not_fill
  | inr a ↦ not_fill s.marker Sized a.0 sized_not_fill
]
marker_ends s (inr t) = not_fill s.marker Last t.last last_not_fill

pub text-append : (s : Segment) (x : List ℕ) → text s ++ x ≡ replicate s.fill 0xFF ++ s.marker ∷ (s.body ++ x)
text-append s x = append_assoc (replicate s.fill 0xFF) (s.marker ∷ s.body) x

-- what two readings of one place share
pub heads_same : (s t : Segment) (x y : List ℕ) → IsSegment s → IsSegment t → text s ++ x ≡ text t ++ y
    → (s.fill ≡ t.fill) × (s.marker ≡ t.marker) × (s.body ++ x ≡ t.body ++ y)
heads_same s t x y i j e = run_unique s.fill t.fill s.marker t.marker (s.body ++ x) (t.body ++ y) (marker_ends s i) (marker_ends t j)
    (sym (text-append s x) ∙ e ∙ text-append t y)

append_same : (p q x y : List ℕ) → length p ≡ length q → p ++ x ≡ q ++ y → (p ≡ q) × (x ≡ y)
append_same p q x y l e = (
  sym (take_at p x (length p) refl) ∙ ap (take (length p)) e ∙ take_at q y (length p) (sym l),
  sym (drop_at p x (length p) refl) ∙ ap (drop (length p)) e ∙ drop_at q y (length p) (sym l),
)

-- a payload is as long as its length says
pub bodies_same : (a b x y : List ℕ) → HasLength a → HasLength b → a ++ x ≡ b ++ y → (a ≡ b) × (x ≡ y)
bodies_same [] b x y h k e = absurd h
bodies_same (c ∷ []) b x y h k e = absurd h
bodies_same (c ∷ d ∷ p) [] x y h k e = absurd k
bodies_same (c ∷ d ∷ p) (u ∷ []) x y h k e = absurd k
bodies_same (c ∷ d ∷ p) (u ∷ v ∷ q) x y h k e =
    let c' : c ≡ u = cc in
    let d' : d ≡ v = cc in
    let rest : p ++ x ≡ q ++ y = cc in
    let r = append_same p q x y (omega arith) rest in
    (ap (λ (l : List ℕ). c ∷ d ∷ l) r.0 ∙ ap (λ (n : ℕ). n ∷ d ∷ q) c' ∙ ap (λ (n : ℕ). u ∷ n ∷ q) d', r.1)

segment_same : (s t : Segment) → s.fill ≡ t.fill → s.marker ≡ t.marker → s.body ≡ t.body → s ≡ t
segment_same s t a b c = ap (λ (n : ℕ). record { fill = n; marker = s.marker; body = s.body }) a
    ∙ ap (λ (n : ℕ). record { fill = t.fill; marker = n; body = s.body }) b
    ∙ ap (λ (l : List ℕ). record { fill = t.fill; marker = t.marker; body = l }) c

pub no_tail_here : (s t : Segment) (x y : List ℕ) → IsInner s → IsTail t → text s ++ x ≡ text t ++ y → ⊥
no_tail_here s t x y i j e =
    let h = heads_same s t x y (inl i) (inr j) e in
    let c : class_of s.marker ≡ Last = ap class_of h.1 ∙ j.last in
    elim (inner_class s i) [ inl a ↦ let k : Single ≡ Last = sym a.0 ∙ c in cc | inr a ↦ let k : Sized ≡ Last = sym a.0 ∙ c in cc ]

pub first_same : (s t : Segment) (x y : List ℕ) → IsInner s → IsInner t → text s ++ x ≡ text t ++ y → (s ≡ t) × (x ≡ y)
first_same s t x y i j e =
    let h = heads_same s t x y (inl i) (inl j) e in
    let m : class_of s.marker ≡ class_of t.marker = ap class_of h.1 in
    elim (inner_class s i) [
      | inl a ↦ elim (inner_class t j) [
        | inl b ↦ let bodies : s.body ≡ t.body = a.1 ∙ sym b.1 in
            (segment_same s t h.0 h.1 bodies, ap (λ (l : List ℕ). l ++ x) (sym a.1) ∙ h.2 ∙ ap (λ (l : List ℕ). l ++ y) b.1)
        | inr b ↦ let k : Single ≡ Sized = sym a.0 ∙ m ∙ b.0 in absurd (cc)
      ]
      | inr a ↦ elim (inner_class t j) [
        | inl b ↦ let k : Sized ≡ Single = sym a.0 ∙ m ∙ b.0 in absurd (cc)
        | inr b ↦ let r = bodies_same s.body t.body x y a.1 b.1 h.2 in (segment_same s t h.0 h.1 r.0, r.1)
      ]
    ]

pub tails_same : (s t : Segment) → IsTail s → IsTail t → text s ≡ text t → s ≡ t
tails_same s t i j e =
    let h = run_unique s.fill t.fill s.marker t.marker s.body t.body (marker_ends s (inr i)) (marker_ends t (inr j)) e in
    segment_same s t h.0 h.1 h.2

-- segments that begin a file's bytes begin its list
pub begins_list : (ss ts : List Segment) (t : Segment) (rest : List ℕ) → AllByRecursion IsInner ss → AllByRecursion IsInner ts → IsTail t
    → flat_map text ss ++ rest ≡ flat_map text (ts ++ t ∷ []) → (mid : List Segment) × (ts ≡ ss ++ mid) × (rest ≡ flat_map text (mid ++ t ∷ []))
begins_list [] ts t rest a b c e = (ts, refl, e)
begins_list (s ∷ ss) [] t rest a b c e =
    absurd (no_tail_here s t (flat_map text ss ++ rest) [] a.0 c (sym (append_assoc (text s) (flat_map text ss) rest) ∙ e))
begins_list (s ∷ ss) (u ∷ ts) t rest a b c e =
    let f = first_same s u (flat_map text ss ++ rest) (flat_map text (ts ++ t ∷ [])) a.0 b.0 (sym (append_assoc (text s) (flat_map text ss) rest) ∙ e) in
    let r = begins_list ss ts t rest a.1 b.1 c f.1 in
    (r.0, ap (λ (v : Segment). v ∷ ts) (sym f.0) ∙ ap (λ vs. s ∷ vs) r.1, r.2)
