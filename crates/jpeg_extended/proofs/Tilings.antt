-- What a sort of heads, and a walk over them, answer of their extents.
use Rattle.std.proofs.Common.{◌≡◌, ℕ, ◌<◌, ◌≤◌, List, [], ◌∷◌, map, length, refl, sym, ap, ◌∙◌, subst, arith, IsTrue, Some, None}
use Rattle.std.specs.Prelude.{IsPermutation, slice_get}
use Rattle.std.specs.List.Sorted.{IsSortedByKey}
use Rattle.std.proofs.lemmas.List.Sorted.{IsPermutation-map}
use Rattle.jpeg_extended.specs.declared.tiling.Head.{Head}
use Rattle.jpeg_extended.specs.Heads.{extent_of}
use Rattle.jpeg_extended.specs.Tiling.{Extent, InOrder, Tiles, Tiled, IsGap, IsTooLong, all_say, first_full, limit, reach}
use Rattle.jpeg_extended.proofs.Extents.{key, pair_cmp, rises_of, tiles_reach}

pub first_said : (hs : List Head) (h : Head) → Some h ≡ slice_get hs 0 → first_full (map extent_of hs) ≡ Some h.full
first_said [] h e = absurd (cc e)
first_said (x ∷ hs) h e = let is : h ≡ x = cc e in ap (λ (k : Head). Some k.full) (sym is)

pub some_said : (hs : List Head) (h : Head) → Some h ≡ slice_get hs 0 → 0 < length (map extent_of hs)
some_said [] h e = absurd (cc e)
some_said (x ∷ hs) h e = omega arith

pub none_said : (hs : List Head) → None ≡ slice_get hs 0 → map extent_of hs ≡ []
none_said [] e = refl
none_said (x ∷ hs) e = absurd (cc e)

module _ (old new : List Head) (h : Head) (first : Some h ≡ slice_get old 0) where
  pub too_long : limit < h.full → IsTooLong (map extent_of old) h.full
  too_long over = record { first = first_said old h first; over = over }

  module _ (within : h.full ≤ limit) (shuffled : IsPermutation old new) (up : IsSortedByKey key pair_cmp new) where
    in_order : InOrder (map extent_of old) (map extent_of new)
    in_order = record { shuffled = IsPermutation-map extent_of old new shuffled; rises = rises_of new up }

    pub tiled : (place : ℕ) → IsTrue (all_say h.full (map extent_of old)) → Tiles 0 place (map extent_of new) → place ≡ h.full → Tiled (map extent_of old) h.full
    tiled place same tiles is = record {
      some = some_said old h first;
      within = within;
      same = same;
      ordered = map extent_of new;
      shuffled = in_order.shuffled;
      tiles = subst (λ (n : ℕ). Tiles 0 n (map extent_of new)) is tiles;
    }

    pub gap : (place : ℕ) → place ≡ reach 0 (map extent_of new) → (IsTrue (all_say h.full (map extent_of old)) → Tiles 0 h.full (map extent_of new) → ⊥)
        → IsGap (map extent_of old) place
    gap place reaches untiled = record {
      full = h.full;
      first = first_said old h first;
      within = within;
      ordered = map extent_of new;
      order = in_order;
      reaches = reaches;
      untiled = untiled;
    }

-- what tiles up to the full length reaches it
pub tiles_at : (place full : ℕ) (es : List Extent) → place ≡ reach 0 es → Tiles 0 full es → (place ≡ full) × Tiles 0 place es
tiles_at place full es reaches t = let is : place ≡ full = reaches ∙ tiles_reach 0 full es t in (is, subst (λ (n : ℕ). Tiles 0 n es) (sym is) t)
