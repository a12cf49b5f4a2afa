use Rattle.std.proofs.Common.{◌≡◌, map, drop}
use Rattle.xmp_base.specs.Sparse.{byte_over}
use Rattle.xmp_base.proofs.OnSparse.{stated}
use Rattle.xmp_base.proofs.sparse_desk.SparseDesk.byte_at.Given as goal

abbrev pub invariant-loop-piece : goal.invariant-loop-piece
invariant-loop-piece l = byte_over (drop l.piece-index (map stated l.piece-items)) l.place l.byte ≡ byte_over (map stated l.piece-items) l.place 0
