use Rattle.std.proofs.Common.{arith}
use Rattle.xmp_base.proofs.Calls.{size_known, size_len}
use Rattle.xmp_base.proofs.file_tests.put.Goals as goal

pub put_inside-requires-clause-known : goal.put_inside-requires-clause-known
put_inside-requires-clause-known g c = size_known _ _ _ _ 0 c.in-Ok.ensures.call

pub put_inside-requires-clause-within : goal.put_inside-requires-clause-within
put_inside-requires-clause-within g c = omega (arith, size_len _ _ _ _ 0 c.in-Ok.ensures.call)
