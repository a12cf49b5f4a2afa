use Rattle.std.proofs.Common.{List, sym, ap, subst, ◌∙◌}
use Rattle.std.specs.List.{All}
use Rattle.std.proofs.lemmas.List.Elements.{All-same}
use Rattle.tiff_dirs.specs.declared.pieces.Piece.{Piece}
use Rattle.tiff_dirs.specs.declared.tables.CountedPair.{CountedPair}
use Rattle.tiff_dirs.specs.Nearest.{closest}
use Rattle.tiff_dirs.specs.Pairs.{IsCounted, spans_by}
use Rattle.tiff_dirs.specs.Tiff.{Tiff}
use Rattle.tiff_dirs.proofs.walk.Dirs.closest_picture.Goals as goal

pub closest_kept-requires : goal.closest_kept-requires
closest_kept-requires c =
    let s = c.self.inside in
    subst (λ (ps : List Piece). All (IsCounted s.layout.big s.len ps) c.as_slice-2.result.now) (sym c.as_slice.ensures.value)
    (All-same (IsCounted s.layout.big s.len s.pieces.items) c.as_slice-2.result.now _ c.as_slice-2.ensures.value c.self.invariant.3.each)

pub returns : goal.returns
returns c =
    let s = c.self.inside in
    let best = closest c.args.own c.args.best in
    c.closest_kept.ensures
    ∙ ap (λ (ps : List Piece). best (spans_by s.layout.big ps c.as_slice-2.result.now)) c.as_slice.ensures.value
    ∙ ap (λ (cs : List CountedPair). best (spans_by s.layout.big s.pieces.items cs)) c.as_slice-2.ensures.value
    ∙ ap (λ (t : Tiff). best t.pictures) c.self.view_is
