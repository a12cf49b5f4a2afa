use Rattle.std.proofs.Common.{◌∙◌}
use Rattle.std.proofs.lemmas.List.Elements.{All-same, All-push}
use Rattle.tiff_dirs.specs.Pairs.{IsCounted}
use Rattle.tiff_dirs.proofs.Counted.{pairs_more, ranked_more, count_more}
use Rattle.tiff_dirs.proofs.kept_pairs.kept_pairs.Goals as goal

pub loop-pair-preserved : goal.loop-pair-preserved
loop-pair-preserved c =
    let P = IsCounted c.args.big c.args.len c.args.pieces.now in
    let inv = c.loop-pair.invariant in
    let list = c.loop-pair.list.items in
    let d = c.in-Some.counted in
    let new = c.push.new.self.items in
    let items = c.in-Ok.ensures.items in
    record {
      pairs = pairs_more list d new c.args.pairs.now c.loop-pair.pair-index _ c.loop-pair-test.true inv.pairs items c.in-Some.ensures.pair;
      each = All-same P new _ items (All-push P list d inv.each c.in-Some.ensures.counted);
      ranked = ranked_more list d new inv.ranked (c.in-Some.ensures.first ∙ inv.total) items;
      total = count_more list d new c.loop-pair.total c.in-Some-checked_add.more inv.total c.in-Some-checked_add.ensures.1 items;
    }
