use Rattle.std.proofs.Common.{ℕ, subst}
use Rattle.std.specs.Option.{IfSome}
use Rattle.tiff_dirs.specs.Pairs.{IsTable}
use Rattle.tiff_dirs.proofs.kept_pairs.table_piece.Goals as goal

pub returns-clause-table : goal.returns-clause-table
returns-clause-table c =
    subst (λ (n : ℕ). IfSome c.piece_with.result (λ k. IsTable c.args.len c.args.pieces.now k c.args.table.now.start n)) c.in-Some.ensures.1 c.piece_with.ensures
