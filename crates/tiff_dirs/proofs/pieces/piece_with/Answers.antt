use Rattle.std.proofs.Common.{length, refl}
use Rattle.std.proofs.lemmas.Option.{slice_get_read}
use Rattle.tiff_dirs.proofs.pieces.piece_with.Goals as goal

pub returns-then-has : goal.returns-then-has
returns-then-has c =
    (c.index-pieces-k.result, slice_get_read c.args.pieces.now (length c.args.pieces.now) c.loop-k.k c.index-pieces-k.result refl c.loop-k-test.true c.index-pieces-k.is, c.has.ensures c.if-has.true)
