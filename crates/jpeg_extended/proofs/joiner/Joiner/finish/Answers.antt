use Rattle.std.proofs.Common.{◌≡◌, ◌∙◌, ℕ, map, subst, Ok}
use Rattle.std.specs.Prelude.{flat_map, IfSome}
use Rattle.std.specs.declared.option.Option.{Option}
use Rattle.jpeg_extended.specs.Tiling.{Tiles, TilingAnswer}
use Rattle.std.proofs.lemmas.Result.{err_from_is_err_and}
use Rattle.jpeg_extended.specs.Heads.{bytes_in, extent_of}
use Rattle.jpeg_extended.proofs.Joins.{fault_of, joined_of, kept_shuffled}
use Rattle.jpeg_extended.proofs.joiner.Joiner.finish.Goals as goal

pub returns-in_err-tile : goal.returns-in_err-tile
returns-in_err-tile c =
    let p = err_from_is_err_and c.from_residual.result c.from_residual.ensures.1 in
    rw (p.1, p.2, ← c.self.view_is) (fault_of c.self.inside.kept.items c.self.inside.heads.items c.in_err-tile.field-0.0 c.self.invariant c.in_err-tile.ensures.answer)

pub joined-requires : goal.joined-requires
joined-requires c =
    rw (c.as_slice.ensures.value, c.as_slice-in-Some.ensures.value) (kept_shuffled c.self.inside.kept.items c.self.inside.heads.items c.tile.new.heads.items c.self.invariant c.in_ok-tile.ensures.shuffled)

pub returns-in-Some : goal.returns-in-Some
returns-in-Some c =
    let text : c.in_ok-joined-in-Some.field-0 ≡ flat_map (bytes_in c.self.inside.kept.items) c.tile.new.heads.items =
    c.in_ok-joined-in-Some.ensures ∙ (λ i. flat_map (bytes_in (c.as_slice-in-Some.ensures.value i)) (c.as_slice.ensures.value i)) in
    rw (← c.self.view_is) (joined_of c.self.inside.kept.items c.self.inside.heads.items c.tile.new.heads.items c.in-Some.field-0 _ c.self.invariant c.in_ok-tile.ensures.shuffled
    (subst (λ (o : Option ℕ). IfSome o (λ full. Tiles 0 full (map extent_of c.tile.new.heads.items))) c.in-Some.is c.in_ok-tile.ensures.tiles)
    (subst (λ (o : Option ℕ). TilingAnswer (map extent_of c.self.inside.heads.items) (Ok o)) c.in-Some.is c.in_ok-tile.ensures.answer) text)
