use Rattle.std.proofs.Common.{arith}
use Rattle.xmp_base.proofs.Calls.{size_known, size_len}
use Rattle.packet_exchange.proofs.tests.exchange_in.Goals as goal

pub exchange_packet-requires-clause-known : goal.exchange_packet-requires-clause-known
exchange_packet-requires-clause-known g c = size_known _ _ _ _ 0 c.in-Ok.ensures.call

pub exchange_packet-requires-clause-within : goal.exchange_packet-requires-clause-within
exchange_packet-requires-clause-within g c = omega (arith, size_len _ _ _ _ 0 c.in-Ok.ensures.call)
