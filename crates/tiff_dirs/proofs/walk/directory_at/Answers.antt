use Rattle.tiff_dirs.proofs.Kept.{has_at}
use Rattle.tiff_dirs.proofs.walk.directory_at.Goals as goal

pub returns-clause-piece : goal.returns-clause-piece
returns-clause-piece c =
    has_at c.args.layout c.args.len c.in-Some.start c.in-Some-checked_mul.size c.args.pieces.now (record { place = c.args.place.now; piece = c.in-Some-piece_with.piece })
    c.in-Some.ensures.1 c.in-Some-checked_mul.ensures.1 c.in-Some-piece_with.ensures
