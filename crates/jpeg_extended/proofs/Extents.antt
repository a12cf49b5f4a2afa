-- The extents of heads, one after another, and how far they tile.
use Rattle.std.proofs.Common.{inl, inr, ◌≡◌, ◌≢◌, ℕ, suc, ◌+◌, ◌<◌, ◌==◌, ◌↔◌, List, [], ◌∷◌, Bool, true, false, cond, map, drop, get_or, length, refl, sym, ap, ◌∙◌, subst, arith}
use Rattle.std.specs.declared.cmp.Ordering.{Ordering}
use Rattle.std.specs.declared.cmp.Ordering.TheVariants.{Less, Equal, Greater}
use Rattle.std.specs.Ordering.{nat_cmp, is_lt, ordering_then, MatchOrdering}
use Rattle.std.specs.Cmp.{ranked}
use Rattle.std.specs.List.Sorted.{IsSortedByKey}
use Rattle.std.proofs.Math.Seq.{drop-cons}
use Rattle.std.proofs.lemmas.Bool.{eq-eqb, eqb-true}
use Rattle.std.proofs.lemmas.List.{get_or-map, length-map}
use Rattle.jpeg_extended.specs.declared.tiling.Head.{Head}
use Rattle.jpeg_extended.specs.Heads.{extent_of}
use Rattle.jpeg_extended.specs.Tiling.{Extent, Before, RisesFrom, Rises, Tiles, reach}

pub next : (hs : List Head) (i : ℕ) (d : Head) → i < length hs → drop i (map extent_of hs) ≡ extent_of (get_or hs i d) ∷ drop (i + 1) (map extent_of hs)
next hs i d within =
    let size : i < length (map extent_of hs) = omega (arith, length-map hs extent_of, within) in
    let step : suc i ≡ i + 1 = omega arith in
    drop-cons (map extent_of hs) i (extent_of d) size
    ∙ ap (λ (e : Extent). e ∷ drop (suc i) (map extent_of hs)) (get_or-map extent_of hs i d (extent_of d) within)
    ∙ ap (λ (k : ℕ). extent_of (get_or hs i d) ∷ drop k (map extent_of hs)) step

pub reach_on : (at : ℕ) (e : Extent) (es : List Extent) → e.offset ≡ at → reach at (e ∷ es) ≡ reach (at + e.len) es
reach_on at e es is = ap (λ (b : Bool). cond b (reach (at + e.len) es) at) (eq-eqb e.offset at is)

by_test : (P : Bool → Type 0) (b : Bool) → (b ≡ true → P true) → (b ≢ true → P false) → P b
by_test P true on off = on refl
by_test P false on off = off (λ e. cc e)

pub reach_off : (at : ℕ) (e : Extent) (es : List Extent) → e.offset ≢ at → reach at (e ∷ es) ≡ at
reach_off at e es apart = by_test (λ b. cond b (reach (at + e.len) es) at ≡ at) (e.offset == at) (λ on. absurd (apart (eqb-true e.offset at on))) (λ off. refl)

-- what tiles up to a place reaches it
pub tiles_reach : (at end : ℕ) (es : List Extent) → Tiles at end es → reach at es ≡ end
tiles_reach at end [] t = t
tiles_reach at end (e ∷ es) t = reach_on at e es t.0 ∙ tiles_reach (at + e.len) end es t.1

module _ (hs : List Head) (i : ℕ) (d : Head) (at : ℕ) (within : i < length hs) where
  pub goes_on : (get_or hs i d).offset ≡ at → reach at (drop i (map extent_of hs)) ≡ reach (at + (get_or hs i d).len) (drop (i + 1) (map extent_of hs))
  goes_on is = ap (reach at) (next hs i d within) ∙ reach_on at (extent_of (get_or hs i d)) (drop (i + 1) (map extent_of hs)) is

  pub ends : (get_or hs i d).offset ≢ at → reach at (drop i (map extent_of hs)) ≡ at
  ends apart = ap (reach at) (next hs i d within) ∙ reach_off at (extent_of (get_or hs i d)) (drop (i + 1) (map extent_of hs)) apart

  pub tiles_on : (end : ℕ) → (get_or hs i d).offset ≡ at
      → Tiles (at + (get_or hs i d).len) end (drop (i + 1) (map extent_of hs)) ↔ Tiles at end (drop i (map extent_of hs))
  tiles_on end is = (
    λ t. subst (λ (es : List Extent). Tiles at end es) (sym (next hs i d within)) (is, t),
    λ t. (subst (λ (es : List Extent). Tiles at end es) (next hs i d within) t).1,
  )

  pub tiles_off : (end : ℕ) → (get_or hs i d).offset ≢ at → Tiles at end (drop i (map extent_of hs)) → ⊥
  tiles_off end apart t = apart (subst (λ (es : List Extent). Tiles at end es) (next hs i d within) t).0

-- what a comparison of places and, at one place, of lengths says
before_by : (a b : Extent) (r s : Ordering) → MatchOrdering r (b.offset < a.offset) (b.offset ≡ a.offset) (a.offset < b.offset)
    → MatchOrdering s (b.len < a.len) (b.len ≡ a.len) (a.len < b.len) → is_lt (ordering_then r s) ≡ false → Before a b
before_by a b Less s p q e = absurd (cc e)
before_by a b Greater s p q e = inl p
before_by a b Equal Less p q e = absurd (cc e)
before_by a b Equal Equal p q e = inr (sym p, omega (arith, q))
before_by a b Equal Greater p q e = inr (sym p, omega (arith, q))

-- as a sort by place and length leaves them
abbrev pub key : Head → ℕ × ℕ
key h = (h.offset, h.len)

abbrev pub pair_cmp : ℕ × ℕ → ℕ × ℕ → Ordering
pair_cmp x y = ordering_then (nat_cmp x.0 y.0) (nat_cmp x.1 y.1)

before_of : (a b : Head) → is_lt (pair_cmp (key b) (key a)) ≡ false → Before (extent_of a) (extent_of b)
before_of a b e = before_by (extent_of a) (extent_of b) (nat_cmp b.offset a.offset) (nat_cmp b.len a.len) (ranked b.offset a.offset _ refl) (ranked b.len a.len _ refl) e

rises_from : (h : Head) (hs : List Head) → IsSortedByKey key pair_cmp (h ∷ hs) → RisesFrom (extent_of h) (map extent_of hs)
rises_from h [] up = tt
rises_from h (k ∷ hs) up = (
  before_of h k (up 0 h (omega arith) (omega arith)),
  rises_from k hs (λ i d low high. let e : suc i + 1 ≡ suc (i + 1) = omega arith in
      subst (λ (j : ℕ). is_lt (pair_cmp (key (get_or (h ∷ k ∷ hs) j d)) (key (get_or (k ∷ hs) i d))) ≡ false) e (up (suc i) d (omega arith) (omega (arith, high)))),
)

pub rises_of : (hs : List Head) → IsSortedByKey key pair_cmp hs → Rises (map extent_of hs)
rises_of [] up = tt
rises_of (h ∷ hs) up = rises_from h hs up
