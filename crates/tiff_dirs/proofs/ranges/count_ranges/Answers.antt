use Rattle.std.proofs.Common.{length, sym, ap, ◌∙◌, arith}
use Rattle.tiff_dirs.specs.Faults.{pictures_fault}
use Rattle.tiff_dirs.proofs.Listing.{ranges_end}
use Rattle.tiff_dirs.proofs.ranges.count_ranges.Goals as goal

pub returns : goal.returns
returns c =
    let l = c.args.listed.now in
    let none = ranges_end l.big l.pair l.offsets.now l.lens.now c.loop-k.k c.loop-k-test.false in
    let size = ap length none in
    let count = c.loop-k.invariant.count in
    (omega (arith, size, count), sym c.loop-k.invariant.fault ∙ ap (pictures_fault c.args.len) none)
