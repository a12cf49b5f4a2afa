-- What joining heads and the bytes that are kept for them answers.
use Rattle.std.proofs.Common.{◌≡◌, ℕ, ◌+◌, ◌≤◌, List, [], ◌∷◌, map, length, drop, sym, ap, ◌∙◌, subst, arith}
use Rattle.std.specs.Prelude.{flat_map, IsPermutation}
use Rattle.std.proofs.lemmas.List.{length-append, length-map, length-take-le, length-drop}
use Rattle.std.proofs.lemmas.List.Sorted.{All-permutation, IsPermutation-map}
use Rattle.jpeg_extended.specs.declared.tiling.ExtStop.{ExtStop}
use Rattle.jpeg_extended.specs.declared.tiling.Head.{Head}
use Rattle.jpeg_extended.specs.Tiling.{Extent, Tiles, Tiled, IsExtFault, all_say}
use Rattle.jpeg_extended.specs.Heads.{AreKept, bytes_in, extent_of, portion_in}
use Rattle.jpeg_extended.specs.Portions.{extent}
use Rattle.jpeg_extended.specs.Joined.{Joined}
use Rattle.jpeg_extended.proofs.KeptPortions.{bytes_kept, extents_kept, kept_rest}

pub kept_shuffled : (kept : List ℕ) (old new : List Head) → AreKept kept old → IsPermutation old new → AreKept kept new
kept_shuffled kept old new a shuffled = All-permutation (λ (h : Head). h.at + h.len ≤ length kept) old new shuffled a

-- the bytes of what tiles are as many as the places
tiled_length : (kept : List ℕ) (at end : ℕ) (hs : List Head) → AreKept kept hs → Tiles at end (map extent_of hs) → at + length (flat_map (bytes_in kept) hs) ≡ end
tiled_length kept at end [] a t = omega (arith, t)
tiled_length kept at end (h ∷ hs) a t =
    let within : h.at + h.len ≤ length kept = a 0 h (omega arith) in
    let size : length (bytes_in kept h) ≡ h.len = length-take-le h.len (drop h.at kept) (omega (arith, within, length-drop h.at kept)) in
    let rest = tiled_length kept (at + h.len) end hs (kept_rest kept h hs a) t.1 in
    omega (arith, size, rest, length-append (bytes_in kept h) (flat_map (bytes_in kept) hs))

pub joined_of : (kept : List ℕ) (old new : List Head) (full : ℕ) (text : List ℕ) → AreKept kept old → IsPermutation old new → Tiles 0 full (map extent_of new)
    → Tiled (map extent_of old) full → text ≡ flat_map (bytes_in kept) new → Joined (map (portion_in kept) old) text
joined_of kept old new full text a shuffled tiles tiled is =
    let b : AreKept kept new = kept_shuffled kept old new a shuffled in
    let size : length text ≡ full = ap length is ∙ omega (arith, tiled_length kept 0 full new b tiles) in
    record {
      some = omega (arith, tiled.some, length-map old (portion_in kept), length-map old extent_of);
      within = omega (arith, size, tiled.within);
      same = ap (all_say (length text)) (extents_kept kept old a) ∙ ap (λ (n : ℕ). all_say n (map extent_of old)) size ∙ tiled.same;
      ordered = map (portion_in kept) new;
      shuffled = IsPermutation-map (portion_in kept) old new shuffled;
      tiles = subst (λ (es : List Extent). Tiles 0 (length text) es) (sym (extents_kept kept new b)) (subst (λ (n : ℕ). Tiles 0 n (map extent_of new)) (sym size) tiles);
      text_is = is ∙ bytes_kept kept new;
    }

pub fault_of : (kept : List ℕ) (hs : List Head) (stop : ExtStop) → AreKept kept hs → IsExtFault (map extent_of hs) stop → IsExtFault (map extent (map (portion_in kept) hs)) stop
fault_of kept hs stop a fault = subst (λ (es : List Extent). IsExtFault es stop) (sym (extents_kept kept hs a)) fault
