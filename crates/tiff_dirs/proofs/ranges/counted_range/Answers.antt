use Rattle.std.proofs.Common.{length, ap, arith}
use Rattle.tiff_dirs.proofs.Listing.{ranges_end}
use Rattle.tiff_dirs.proofs.ranges.counted_range.Goals as goal

pub unreachable-requires : goal.unreachable-requires
unreachable-requires c =
    let l = c.args.listed.now in
    let size = ap length (ranges_end l.big l.pair l.offsets.now l.lens.now c.loop-k.k c.loop-k-test.false) in
    let within = c.loop-k.invariant.within in
    omega (arith, size, within)
