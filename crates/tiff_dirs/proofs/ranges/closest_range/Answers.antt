use Rattle.std.proofs.Common.{sym, ap, ◌∙◌}
use Rattle.tiff_dirs.specs.Pictures.{Picture, spans_of}
use Rattle.tiff_dirs.specs.Nearest.{closest}
use Rattle.std.proofs.Common.{List}
use Rattle.tiff_dirs.proofs.Listing.{ranges_end}
use Rattle.tiff_dirs.proofs.ranges.closest_range.Goals as goal

pub returns : goal.returns
returns c =
    let l = c.args.listed.now in
    sym (ap (λ (t : List Picture). closest c.args.own c.loop-k.best (spans_of t)) (ranges_end l.big l.pair l.offsets.now l.lens.now c.loop-k.k c.loop-k-test.false)) ∙ c.loop-k.invariant.best
