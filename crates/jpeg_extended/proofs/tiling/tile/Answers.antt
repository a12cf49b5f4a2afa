use Rattle.std.proofs.Common.{◌≡◌, ◌∙◌, List, map, sym, ap, rules, Some, IsTrue}
use Rattle.std.specs.Prelude.{slice_get}
use Rattle.std.specs.List.Sorted.{IsSortedByKey}
use Rattle.std.proofs.lemmas.Fn.{always_returns_same}
use Rattle.jpeg_extended.specs.declared.tiling.Head.{Head}
use Rattle.jpeg_extended.specs.Heads.{extent_of}
use Rattle.jpeg_extended.specs.Tiling.{all_say, reach}
use Rattle.jpeg_extended.proofs.Extents.{key, pair_cmp}
use Rattle.jpeg_extended.proofs.Tilings.{tiled, gap, tiles_at}
use Rattle.jpeg_extended.proofs.tiling.tile.Goals.{else-same-via-then-same+then-all+else-place-full, else-same-via-then-same+else-all, else-same-via-else-same}
use Rattle.jpeg_extended.proofs.tiling.tile.Goals as goal

pub returns-then-place-full-clause-answer : goal.returns-then-place-full-clause-answer
returns-then-place-full-clause-answer c =
    let up : IsSortedByKey key pair_cmp c.sort_by_key.new.self.items = c.in_ok-sort_by_key.ensures.sorted key (always_returns_same _ (λ a r. r ≡ key a.0.now) _ (λ a r f k. search rules)) in
    let first : Some c.in-Some.first.now ≡ slice_get c.args.heads.now.items 0 = c.in-Some.ensures.value ∙ ap (λ (l : List Head). slice_get l 0) c.deref.ensures.value in
    let same : IsTrue (all_say c.in-Some.first.now.full (map extent_of c.args.heads.now.items)) =
    ap (λ (l : List Head). all_say c.in-Some.first.now.full (map extent_of l)) (sym c.as_slice.ensures.value) ∙ sym c.all_say-same.ensures ∙ c.if-same.true in
    let tiles = rw c.as_slice-2.ensures.value at (c.reach_of-place.ensures.all.0 c.if-all.true) in
    tiled c.args.heads.now.items _ c.in-Some.first.now first c.if-full-gt-LIMIT.false c.in_ok-sort_by_key.ensures.permutation up c.reach_of-place.result.0 same tiles c.if-place-full.true

pub returns-else-same-clause-answer : goal.returns-else-same-clause-answer
returns-else-same-clause-answer c =
    let full = c.in-Some.first.now.full in
    let new = c.sort_by_key.new.self.items in
    let up : IsSortedByKey key pair_cmp new = c.in_ok-sort_by_key.ensures.sorted key (always_returns_same _ (λ a r. r ≡ key a.0.now) _ (λ a r f k. search rules)) in
    let first : Some c.in-Some.first.now ≡ slice_get c.args.heads.now.items 0 = c.in-Some.ensures.value ∙ ap (λ (l : List Head). slice_get l 0) c.deref.ensures.value in
    let said : c.all_say-same.result ≡ all_say full (map extent_of c.args.heads.now.items) =
    c.all_say-same.ensures ∙ ap (λ (l : List Head). all_say full (map extent_of l)) c.as_slice.ensures.value in
    let reaches : c.reach_of-place.result.0 ≡ reach 0 (map extent_of new) = c.reach_of-place.ensures.place ∙ ap (λ (l : List Head). reach 0 (map extent_of l)) c.as_slice-2.ensures.value in
    let all = rw c.as_slice-2.ensures.value at c.reach_of-place.ensures.all in
    gap c.args.heads.now.items new c.in-Some.first.now first c.if-full-gt-LIMIT.false c.in_ok-sort_by_key.ensures.permutation up c.reach_of-place.result.0 reaches
    (λ same tiles. elim c.else-same.branch [
      | else-same-via-then-same+then-all+else-place-full w ↦ w.if-place-full.false (tiles_at _ full (map extent_of new) reaches tiles).0
      | else-same-via-then-same+else-all w ↦ absurd (cc (w.if-all.false, all.1 (tiles_at _ full (map extent_of new) reaches tiles).1))
      | else-same-via-else-same w ↦ absurd (cc (w.if-same.false, said, same))
    ])
