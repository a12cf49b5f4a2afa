use Rattle.std.proofs.Common.{◌≡◌, ℕ, ◌<◌, length, get_or}
use Rattle.xmp_write.specs.WrittenPackets.{pad_byte}
use Rattle.xmp_write.proofs.writing.pad_into.Given as goal

abbrev pub invariant-loop-at : goal.invariant-loop-at
invariant-loop-at l = (k : ℕ) → k < l.at → get_or l.to k 0 ≡ pad_byte (length l.to) k
