use Rattle.std.proofs.Common.{List, map, subst, ap, ◌∙◌}
use Rattle.std.specs.List.{All}
use Rattle.tiff_dirs.specs.declared.layout.Layout.{Layout}
use Rattle.tiff_dirs.specs.declared.pieces.Piece.{Piece}
use Rattle.xmp_base.specs.declared.file_span.FileSpan.{FileSpan}
use Rattle.tiff_dirs.specs.Kept.{IsPlaced, dir_in}
use Rattle.tiff_dirs.specs.Pairs.{AreKept, spans_by}
use Rattle.tiff_dirs.specs.Tiff.{Dir, Tiff}
use Rattle.tiff_dirs.proofs.Kept.{placed_are}
use Rattle.tiff_dirs.proofs.Counted.{kept_are}
use Rattle.tiff_dirs.proofs.walk.settled.Goals as goal

abbrev tiff_as : Layout → List FileSpan → List Dir → Tiff
tiff_as layout pictures dirs = record { layout = layout; dirs = dirs; pictures = pictures }

pub invariant_of-result : goal.invariant_of-result
invariant_of-result c = (
  c.ranges.len.fits,
  c.requires,
  subst (λ (ps : List Piece). All (IsPlaced c.args.layout c.args.len ps) c.in_ok-found.found.items) c.as_slice.ensures.value c.in_ok-found.ensures.placed,
  subst (λ (ps : List Piece). AreKept c.args.layout.big c.args.len ps c.in_ok-pictures.pictures) c.as_slice-2.ensures.value c.in_ok-pictures.ensures.kept,
)

pub returns : goal.returns
returns c = λ file size all.
    let l = c.args.layout in
    let len = c.args.len in
    let pieces = c.args.pieces.items in
    let placed = subst (λ (ps : List Piece). All (IsPlaced l len ps) c.in_ok-found.found.items) c.as_slice.ensures.value c.in_ok-found.ensures.placed in
    let kept = subst (λ (ps : List Piece). AreKept l.big len ps c.in_ok-pictures.pictures) c.as_slice-2.ensures.value c.in_ok-pictures.ensures.kept in
    let list = c.in_ok-pictures.pictures.list.items in
    ap (tiff_as l (spans_by l.big pieces list))
    (placed_are file l len pieces c.in_ok-found.found.items c.requires size all placed ∙ ap (map (dir_in l file)) c.in_ok-found.ensures.places)
    ∙ ap (λ (ps : List FileSpan). tiff_as l ps (map (dir_in l file) c.args.reached.now)) (kept_are file l.big len pieces list c.args.pairs.now all kept.each c.in_ok-pictures.ensures.pairs)
