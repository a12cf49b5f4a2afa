use Rattle.std.proofs.Common.{List, length, sym, ap, subst, ◌∙◌, arith}
use Rattle.std.specs.List.{All, slice_get}
use Rattle.std.proofs.lemmas.List.Elements.{All-same}
use Rattle.tiff_dirs.specs.declared.pieces.Piece.{Piece}
use Rattle.tiff_dirs.specs.declared.tables.CountedPair.{CountedPair}
use Rattle.tiff_dirs.specs.Pairs.{IsCounted, IsRanked, count_of, spans_by}
use Rattle.tiff_dirs.specs.Tiff.{Tiff}
use Rattle.tiff_dirs.proofs.Counted.{count_is}
use Rattle.tiff_dirs.proofs.walk.Dirs.picture.Goals as goal

pub kept_range-requires-clause-each : goal.kept_range-requires-clause-each
kept_range-requires-clause-each c =
    let s = c.self.inside in
    subst (λ (ps : List Piece). All (IsCounted s.layout.big s.len ps) c.as_slice-2.result.now) (sym c.as_slice.ensures.value)
    (All-same (IsCounted s.layout.big s.len s.pieces.items) c.as_slice-2.result.now _ c.as_slice-2.ensures.value c.self.invariant.3.each)

pub kept_range-requires-clause-ranked : goal.kept_range-requires-clause-ranked
kept_range-requires-clause-ranked c = subst IsRanked (sym c.as_slice-2.ensures.value) c.self.invariant.3.ranked

pub kept_range-requires-clause-within : goal.kept_range-requires-clause-within
kept_range-requires-clause-within c =
    let s = c.self.inside in
    let count = count_is s.layout.big s.pieces.items s.len s.pictures.list.items c.self.invariant.3.each in
    let same = ap (λ (t : Tiff). length t.pictures) c.self.view_is in
    let list = ap count_of c.as_slice-2.ensures.value in
    let within = c.requires in
    omega (arith, count, same, list, within)

pub returns : goal.returns
returns c =
    let s = c.self.inside in
    ap (λ (t : Tiff). slice_get t.pictures c.args.i) (sym c.self.view_is)
    ∙ ap (λ (ps : List Piece). slice_get (spans_by s.layout.big ps s.pictures.list.items) c.args.i) (sym c.as_slice.ensures.value)
    ∙ ap (λ (cs : List CountedPair). slice_get (spans_by s.layout.big c.as_slice.result.now cs) c.args.i) (sym c.as_slice-2.ensures.value)
    ∙ c.kept_range.ensures
