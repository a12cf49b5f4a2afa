use Rattle.std.proofs.Common.{sym, ◌∙◌}
use Rattle.std.proofs.lemmas.Slice.Eq.{bytes_eq-Decides}
use Rattle.xmp_base.specs.contracts.sparse_desk.SparseDesk.{the_view}
use Rattle.xmp_base.proofs.OnSparse.{sparse_size}
use Rattle.xmp_base.proofs.sparse_desk.SparseDeskDesk.size.Goals as goal

pub returns-then-eq-clause-call : goal.returns-then-eq-clause-call
returns-then-eq-clause-call c =
    rw (← c.self.view_is) (sparse_size (the_view c.self.inside) _ (sym ((bytes_eq-Decides _ _).0 (sym c.eq.ensures ∙ c.if-eq.true)) ∙ c.as_str.ensures.value))
