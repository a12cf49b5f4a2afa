-- Two orders of the same extents agree, place by place.
use Rattle.std.proofs.Common.{◌≡◌, ◌⊎◌, inl, inr, ℕ, ◌+◌, ◌<◌, List, [], ◌∷◌, refl, sym, ap, ◌∙◌, subst, arith}
use Rattle.std.specs.Prelude.{sum_by}
use Rattle.std.specs.declared.cmp.Ordering.{Ordering}
use Rattle.std.specs.declared.cmp.Ordering.TheVariants.{Less, Equal, Greater}
use Rattle.std.specs.Ordering.{nat_cmp, MatchOrdering}
use Rattle.std.specs.Cmp.{ranked}
use Rattle.std.proofs.lemmas.List.Sorted.{sum_by-IsPermutation}
use Rattle.std.proofs.lemmas.List.Sums.{sum_by-cons}
use Rattle.jpeg_extended.specs.Tiling.{Extent, Before, RisesFrom, Rises, Tiles, InOrder, reach}
use Rattle.jpeg_extended.proofs.Extents.{reach_on, reach_off}

before_trans : (a b c : Extent) → Before a b → Before b c → Before a c
before_trans a b c (inl p) (inl q) = inl (omega (arith, p, q))
before_trans a b c (inl p) (inr q) = inl (omega (arith, p, q.0))
before_trans a b c (inr p) (inl q) = inl (omega (arith, p.0, q))
before_trans a b c (inr p) (inr q) = inr (p.0 ∙ q.0, omega (arith, p.1, q.1))

-- both ways round
same_key : (a b : Extent) → Before a b → Before b a → (a.offset ≡ b.offset) × (a.len ≡ b.len)
same_key a b (inl p) (inl q) = absurd (omega (arith, p, q))
same_key a b (inl p) (inr q) = absurd (omega (arith, p, q.0))
same_key a b (inr p) (inl q) = absurd (omega (arith, p.0, q))
same_key a b (inr p) (inr q) = (p.0, omega (arith, p.1, q.1))

decide_by : (a b : Extent) (r s : Ordering) → MatchOrdering r (a.offset < b.offset) (a.offset ≡ b.offset) (b.offset < a.offset)
    → MatchOrdering s (a.len < b.len) (a.len ≡ b.len) (b.len < a.len) → Before a b ⊎ (Before a b → ⊥)
decide_by a b Less s p q = inl (inl p)
decide_by a b Equal Less p q = inl (inr (p, omega (arith, q)))
decide_by a b Equal Equal p q = inl (inr (p, omega (arith, q)))
decide_by a b Equal Greater p q = inr (λ h. elim h [
  | inl l ↦ omega (arith, l, p)
  | inr l ↦ omega (arith, l.1, q)
])
decide_by a b Greater s p q = inr (λ h. elim h [
  | inl l ↦ omega (arith, l, p)
  | inr l ↦ omega (arith, l.0, p)
])

decide : (a b : Extent) → Before a b ⊎ (Before a b → ⊥)
decide a b = decide_by a b (nat_cmp a.offset b.offset) (nat_cmp a.len b.len) (ranked a.offset b.offset _ refl) (ranked a.len b.len _ refl)

one_if : {P : Type 0} → P ⊎ (P → ⊥) → ℕ
one_if (inl p) = 1
one_if (inr p) = 0

one_for : {P : Type 0} (d : P ⊎ (P → ⊥)) → P → one_if d ≡ 1
unfolding one_if
one_for (inl p) h = refl
one_for (inr p) h = absurd (p h)

none_for : {P : Type 0} (d : P ⊎ (P → ⊥)) → (P → ⊥) → one_if d ≡ 0
unfolding one_if
none_for (inl p) h = absurd (h p)
none_for (inr p) h = refl

abbrev at : ℕ → ℕ → Extent
at offset len = record { full = 0; offset = offset; len = len }

-- 1 for a place and a length that stand before x, or with it
upto : Extent → ℕ → ℕ → ℕ
upto x offset len = one_if (decide (at offset len) x)

-- the sum over the places and lengths
abbrev total : (ℕ → ℕ → ℕ) → List Extent → ℕ
total f [] = 0
total f (e ∷ es) = f e.offset e.len + total f es

total_is : (f : ℕ → ℕ → ℕ) (es : List Extent) → sum_by (λ (e : Extent). f e.offset e.len) es ≡ total f es
total_is f [] = refl
total_is f (e ∷ es) = sum_by-cons (λ (x : Extent). f x.offset x.len) e es ∙ ap (λ (n : ℕ). f e.offset e.len + n) (total_is f es)

tail_rises : (e : Extent) (es : List Extent) → RisesFrom e es → Rises es
tail_rises e [] r = tt
tail_rises e (f ∷ es) r = r.1

-- nothing that follows y stands before x where y doesn't
none_upto : (x y e : Extent) (es : List Extent) → (Before y x → ⊥) → Before y e → RisesFrom e es → total (upto x) (e ∷ es) ≡ 0
unfolding upto
none_upto x y e [] apart first r = omega (arith, none_for (decide (at e.offset e.len) x) (λ h. apart (before_trans y e x first h)))
none_upto x y e (f ∷ es) apart first r =
    let none = none_for (decide (at e.offset e.len) x) (λ h. apart (before_trans y e x first h)) in
    let rest = none_upto x y f es apart (before_trans y e f first r.0) r.1 in
    omega (arith, none, rest)

itself : (e : Extent) → Before e e
itself e = inr (refl, omega arith)

-- of two orders with the same sums, the first doesn't stand after the other's
first_before : (x y : Extent) (q r : List Extent) → RisesFrom y r → ((f : ℕ → ℕ → ℕ) → total f (x ∷ q) ≡ total f (y ∷ r)) → Before y x
unfolding upto
first_before x y q r rises same = elim (decide y x) [
  | inl h ↦ h
  | inr apart ↦
      let one = one_for (decide (at x.offset x.len) x) (itself x) in
      let none = none_upto x y y r apart (itself y) rises in
      absurd (omega (arith, one, none, same (upto x)))
]

-- they agree in places and lengths
abbrev pub Agree : List Extent → List Extent → Type 0
Agree [] [] = Unit {0}
Agree [] (f ∷ fs) = ⊥
Agree (e ∷ es) [] = ⊥
Agree (e ∷ es) (f ∷ fs) = (e.offset ≡ f.offset) × (e.len ≡ f.len) × Agree es fs

one_order : (q r : List Extent) → Rises q → Rises r → ((f : ℕ → ℕ → ℕ) → total f q ≡ total f r) → Agree q r
one_order [] [] a b same = tt
one_order [] (y ∷ r) a b same = absurd (omega (arith, same (λ o l. 1)))
one_order (x ∷ q) [] a b same = absurd (omega (arith, same (λ o l. 1)))
one_order (x ∷ q) (y ∷ r) a b same =
    let key = same_key x y (first_before y x r q a (λ f. sym (same f))) (first_before x y q r b same) in (
      key.0,
      key.1,
      one_order q r (tail_rises x q a) (tail_rises y r b) (λ f.
          let first : f x.offset x.len ≡ f y.offset y.len = (λ i. f (key.0 i) (key.1 i)) in omega (arith, first, same f)),
    )

pub orders_agree : (es q r : List Extent) → InOrder es q → InOrder es r → Agree q r
orders_agree es q r a b = one_order q r a.rises b.rises (λ f.
    sym (total_is f q) ∙ sum_by-IsPermutation (λ (e : Extent). f e.offset e.len) es q a.shuffled
    ∙ sym (sum_by-IsPermutation (λ (e : Extent). f e.offset e.len) es r b.shuffled) ∙ total_is f r)

apart_or : (a b : ℕ) → (a ≡ b) ⊎ (a ≡ b → ⊥)
apart_or a b = elim (decide (at a 0) (at b 0)) [
  | inl l ↦ elim (decide (at b 0) (at a 0)) [
    | inl m ↦ inl (same_key (at a 0) (at b 0) l m).0
    | inr m ↦ inr (λ e. m (inr (sym e, omega arith)))
  ]
  | inr m ↦ inr (λ e. m (inr (e, omega arith)))
]

pub reach_agrees : (at : ℕ) (q r : List Extent) → Agree q r → reach at q ≡ reach at r
reach_agrees at [] [] a = refl
reach_agrees at [] (y ∷ r) a = absurd a
reach_agrees at (x ∷ q) [] a = absurd a
reach_agrees at (x ∷ q) (y ∷ r) a = elim (apart_or x.offset at) [
  | inl on ↦ reach_on at x q on ∙ ap (λ (n : ℕ). reach (at + n) q) a.1 ∙ reach_agrees (at + y.len) q r a.2 ∙ sym (reach_on at y r (sym a.0 ∙ on))
  | inr off ↦ reach_off at x q off ∙ sym (reach_off at y r (λ e. off (a.0 ∙ e)))
]

pub tiles_agree : (at end : ℕ) (q r : List Extent) → Agree q r → Tiles at end q → Tiles at end r
tiles_agree at end [] [] a t = t
tiles_agree at end [] (y ∷ r) a t = absurd a
tiles_agree at end (x ∷ q) [] a t = absurd a
tiles_agree at end (x ∷ q) (y ∷ r) a t = (sym a.0 ∙ t.0, tiles_agree (at + y.len) end q r a.2 (subst (λ (n : ℕ). Tiles (at + n) end q) a.1 t.1))

-- what tiles is in order
tile_from : (at end : ℕ) (e : Extent) (es : List Extent) → e.offset ≡ at → Tiles (at + e.len) end es → RisesFrom e es
tile_from at end e [] is t = tt
tile_from at end e (f ∷ es) is t = (
  elim (decide e f) [
    | inl h ↦ h
    | inr apart ↦ absurd (apart (elim (apart_or e.len 0) [
      | inl none ↦ inr (omega (arith, is, t.0, none), omega (arith, none))
      | inr some ↦ inl (omega (arith, is, t.0, positive e.len some))
    ]))
  ],
  tile_from (at + e.len) end f es t.0 t.1,
)
  where
    positive : (n : ℕ) → (n ≡ 0 → ⊥) → 0 < n
    positive n some = grind (arith, some)

pub tiles_rise : (at end : ℕ) (es : List Extent) → Tiles at end es → Rises es
tiles_rise at end [] t = tt
tiles_rise at end (e ∷ es) t = tile_from at end e es t.0 t.1
