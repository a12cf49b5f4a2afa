use Rattle.std.proofs.Common.{get_or, ap, ◌∙◌}
use Rattle.std.proofs.lemmas.Option.{slice_get-get_or}
use Rattle.tiff_dirs.specs.Nearest.{closest}
use Rattle.tiff_dirs.specs.Pictures.{spans_of}
use Rattle.tiff_dirs.proofs.Counted.{none, kept_more, kept_end}
use Rattle.tiff_dirs.proofs.kept_pairs.closest_kept.Goals as goal

pub loop-counted-preserved : goal.loop-counted-preserved
loop-counted-preserved c =
    let pairs = c.args.pairs.now in
    let k = c.loop-counted.counted-index in
    kept_more c.args.big c.args.pieces.now c.args.own c.loop-counted.best c.closest_range-best.result pairs k (get_or pairs k none) (slice_get-get_or pairs k none c.loop-counted-test.true)
    (c.closest_range-best.ensures ∙ ap (λ t. closest c.args.own c.loop-counted.best (spans_of t)) c.listed_by-listed.ensures)
    ∙ c.loop-counted.invariant

pub returns : goal.returns
returns c = kept_end c.args.big c.args.pieces.now c.args.own c.loop-counted.best c.args.pairs.now c.loop-counted.counted-index c.loop-counted-test.false ∙ c.loop-counted.invariant
