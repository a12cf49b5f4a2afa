use Rattle.std.proofs.Common.{ℕ, List, map, sym, subst, Ok}
use Rattle.std.specs.Prelude.{IfSome}
use Rattle.std.specs.declared.option.Option.{Option}
use Rattle.jpeg_extended.specs.declared.tiling.Head.{Head}
use Rattle.jpeg_extended.specs.Heads.{extent_of}
use Rattle.jpeg_extended.specs.Tiling.{Tiles, TilingAnswer}
use Rattle.jpeg_extended.specs.FromDesk.{AreOf, TextCall}
use Rattle.jpeg_extended.proofs.DeskPortions.{placed_shuffled, join_refused, join_read}
use Rattle.jpeg_extended.proofs.from_desk.joined_from.Goals as goal

pub text_from-requires-clause-of : goal.text_from-requires-clause-of
text_from-requires-clause-of g c =
    subst (AreOf c.args.payloads.now) (sym c.as_slice.ensures.value) (placed_shuffled _ _ c.tile.new.heads.items c.in-Ok.ensures.placed c.tile.ensures.shuffled)

pub returns-in-Ok-text_from : goal.returns-in-Ok-text_from
returns-in-Ok-text_from g c = record {
  call = join_read (g.D.Desk.state c.args.desk.now) (g.D.Desk.state c.heads_from.new.desk) c.args.file.now c.args.name.now c.args.len c.args.payloads.now c.in-Ok.heads.items c.tile.new.heads.items
      c.requires.inside c.requires.told c.in-Ok.ensures.calls c.in-Ok.ensures.placed c.in-Ok.ensures.told
      (g.D.Desk.state c.text_from.new.desk) c.in-Ok-Some.field-0-0 c.in-Ok-text_from.text c.tile.ensures.shuffled
      (subst (λ (o : Option ℕ). IfSome o (λ full. Tiles 0 full (map extent_of c.tile.new.heads.items))) c.in-Ok-Some.field-0-is c.in-Ok-Some.ensures.tiles)
      (subst (λ (o : Option ℕ). TilingAnswer (map extent_of c.in-Ok.heads.items) (Ok o)) c.in-Ok-Some.field-0-is c.in-Ok-Some.ensures.answer)
      (subst (λ (hs : List Head). TextCall (g.D.Desk.state c.heads_from.new.desk) (g.D.Desk.state c.text_from.new.desk) c.args.file.now c.args.payloads.now hs (Ok c.in-Ok-text_from.text))
      c.as_slice.ensures.value c.in-Ok-text_from.ensures.call);
}

pub returns : goal.returns
returns g c = record {
  call = join_refused (g.D.Desk.state c.args.desk.now) (g.D.Desk.state c.heads_from.new.desk) c.args.file.now c.args.name.now c.args.len c.args.payloads.now c.in-Ok.heads.items c.tile.new.heads.items
      c.requires.inside c.requires.told c.in-Ok.ensures.calls c.in-Ok.ensures.placed c.in-Ok.ensures.told
      c.in-Err-tile.stop c.in-Err-tile.ensures.answer;
}
