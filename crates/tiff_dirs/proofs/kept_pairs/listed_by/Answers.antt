use Rattle.std.proofs.Common.{List, ℕ, ap, ◌∙◌}
use Rattle.std.specs.List.{slice_get}
use Rattle.tiff_dirs.specs.Pairs.{bytes_by, ranges_by, ranges_from}
use Rattle.tiff_dirs.proofs.kept_pairs.listed_by.Goals as goal

pub returns : goal.returns
unfolding ranges_by
returns c =
    let p = c.args.placed.now in
    ap (λ (t : List ℕ). ranges_from c.args.big p.pair t c.table_bytes-2.result.now 0) c.table_bytes.ensures.is
    ∙ ap (λ (t : List ℕ). ranges_from c.args.big p.pair (bytes_by (slice_get c.args.pieces.now p.offsets) p.pair.offsets.start) t 0) c.table_bytes-2.ensures.is
