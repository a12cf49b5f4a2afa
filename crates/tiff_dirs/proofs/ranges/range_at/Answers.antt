use Rattle.std.proofs.Common.{◌+◌, ◌*◌, ◌<◌, refl, arith}
use Rattle.tiff_dirs.specs.Numbers.{number}
use Rattle.tiff_dirs.specs.Pairs.{listed_from}
use Rattle.tiff_dirs.proofs.Listing.{ranges_next, item_none, item_some, item_out}
use Rattle.tiff_dirs.proofs.ranges.range_at.Goals.{then-start-len-via-then-start-len, then-start-len-via-else-start-len+then-size-len}
use Rattle.tiff_dirs.proofs.ranges.range_at.Goals as goal

pub returns-then-size-eq0 : goal.returns-then-size-eq0
returns-then-size-eq0 c =
    let l = c.args.listed.now in
    let k = c.args.k in
    let o = number l.big l.pair.offsets.width (l.pair.offsets.width * k) l.offsets.now in
    let n = c.number_at-size.result in
    item_none c.args.len l.pair.place o n (listed_from l k) (listed_from l (k + 1)) (ranges_next l.big l.pair l.offsets.now l.lens.now k o n c.requires refl c.number_at-size.ensures) c.if-size-eq0.true

pub returns-then-start-len : goal.returns-then-start-len
returns-then-start-len c =
    let l = c.args.listed.now in
    let k = c.args.k in
    let o = c.number_at-start.result in
    let n = c.number_at-size.result in
    let outside : c.args.len < o + n =
    elim c.then-start-len.branch [
      | then-start-len-via-then-start-len w ↦ (let a = w.if-start-len.true in omega (arith, a))
      | then-start-len-via-else-start-len+then-size-len w ↦ (let a = w.if-start-len.false in let b = w.if-size-len.true in omega (arith, a, b))
    ] in
    item_out c.args.len l.pair.place o n (listed_from l k) (listed_from l (k + 1))
    (ranges_next l.big l.pair l.offsets.now l.lens.now k o n c.requires c.number_at-start.ensures c.number_at-size.ensures) c.if-size-eq0.false outside

pub returns : goal.returns
returns c =
    let l = c.args.listed.now in
    let k = c.args.k in
    let o = c.number_at-start.result in
    let n = c.number_at-size.result in
    item_some c.args.len l.pair.place o n (listed_from l k) (listed_from l (k + 1))
    (ranges_next l.big l.pair l.offsets.now l.lens.now k o n c.requires c.number_at-start.ensures c.number_at-size.ensures) c.if-size-eq0.false (omega arith)
