use Rattle.xmp_base.proofs.OnSparse.{sparse_write}
use Rattle.xmp_base.proofs.sparse_desk.SparseDeskDesk.write_at.Goals as goal

pub returns-clause-call : goal.returns-clause-call
returns-clause-call c = sparse_write _ _ _ _ _ _ c.requires.known c.fault.ensures.fits c.fault.ensures.after
