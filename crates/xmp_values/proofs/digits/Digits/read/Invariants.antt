use Rattle.std.proofs.Common.{◌≡◌, ◌<◌, ℕ, length, get_or, IsTrue}
use Rattle.xmp_values.specs.Digits.{is_digit, capital, is_capital}
use Rattle.xmp_values.proofs.digits.Digits.read.Given as goal

abbrev pub invariant-loop-i : goal.invariant-loop-i
invariant-loop-i l = record {
  many : length l.bytes ≡ 32;
  full : length l.held ≡ 32;
  tested : (k : ℕ) → k < l.i → IsTrue (is_digit (get_or l.bytes k 0));
  capitals : (k : ℕ) → k < l.i → IsTrue (is_capital (get_or l.held k 0));
  put : (k : ℕ) → k < l.i → get_or l.held k 0 ≡ capital (get_or l.bytes k 0);
}
