use Rattle.std.proofs.Common.{sym}
use Rattle.xmp_base.proofs.Calls.{size_known, size_len}
use Rattle.xmp_base.proofs.file_tests.grow.Goals as goal

pub append-requires-clause-target : goal.append-requires-clause-target
append-requires-clause-target g c = size_known _ _ _ _ 0 c.in-Ok.ensures.call

pub append-requires-clause-at_end : goal.append-requires-clause-at_end
append-requires-clause-at_end g c = sym (size_len _ _ _ _ 0 c.in-Ok.ensures.call)
