use Rattle.std.proofs.Common.{drop, ap, arith}
use Rattle.std.proofs.lemmas.List.{length-append, length-drop}
use Rattle.xmp_base.specs.Sparse.{SparseFile}
use Rattle.xmp_base.proofs.OnSparse.{sparse_read}
use Rattle.xmp_base.proofs.sparse_desk.SparseDeskDesk.read_at.Goals as goal

pub returns-clause-call : goal.returns-clause-call
returns-clause-call c =
    let size = ap (λ (s : SparseFile). s.size) c.self.view_is in
    sparse_read c.args.self.now _ _ _ _ c.requires
    (omega (
      arith,
      c.min-count.ensures,
      c.saturating_sub-left.ensures,
      size,
      c.loop-k.invariant.size,
      length-append c.loop-k.byte-items (drop c.min-count.result c.args.to.now),
      length-drop c.min-count.result c.args.to.now,
    ))
