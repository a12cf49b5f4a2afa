use Rattle.std.proofs.Common.{◌≡◌, ◌<◌, ◌+◌, ℕ, length, get_or}
use Rattle.xmp_base.specs.Sparse.{byte_at}
use Rattle.xmp_base.proofs.sparse_desk.SparseDeskDesk.read_at.Given as goal

abbrev pub invariant-loop-k : goal.invariant-loop-k
invariant-loop-k l = record {
  size : length l.byte-items ≡ l.count;
  bytes : (k : ℕ) → k < l.k → get_or l.byte-items k 0 ≡ byte_at l.self (l.at + k);
}
