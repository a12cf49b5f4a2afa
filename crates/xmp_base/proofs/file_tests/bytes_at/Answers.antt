use Rattle.std.proofs.Common.{arith}
use Rattle.xmp_base.proofs.Calls.{size_known, size_len}
use Rattle.xmp_base.proofs.file_tests.bytes_at.Goals as goal

pub window-requires-clause-known : goal.window-requires-clause-known
window-requires-clause-known g c = size_known _ _ _ _ 0 c.in-Ok.ensures.call

pub window-requires-clause-within : goal.window-requires-clause-within
window-requires-clause-within g c = omega (arith, size_len _ _ _ _ 0 c.in-Ok.ensures.call)
