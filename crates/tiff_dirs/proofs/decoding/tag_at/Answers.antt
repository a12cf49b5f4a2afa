use Rattle.std.proofs.Common.{arith}
use Rattle.tiff_dirs.proofs.Kept.{mul_within}
use Rattle.tiff_dirs.proofs.decoding.tag_at.Goals as goal

pub overflow_mul-layout : goal.overflow_mul-layout
overflow_mul-layout c =
    let e = c.args.entries.now in
    let room = mul_within e.layout.entry c.args.k e.count c.requires in
    let inside = e.inside in
    let within = e.within in
    let fits = e.fits in
    omega (arith, room, inside, within, fits)

pub u16_at-requires : goal.u16_at-requires
u16_at-requires c =
    let e = c.args.entries.now in
    let room = mul_within e.layout.entry c.args.k e.count c.requires in
    let inside = e.inside in
    let entry = e.widths.entry in
    omega (arith, room, inside, entry)
