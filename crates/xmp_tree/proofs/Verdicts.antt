-- The verdict of a test that may lack memory.
use Rattle.std.proofs.Common.{◌↔◌, Bool, Ok, Err}
use Rattle.std.specs.Prelude.{Result, IfOk, IsTrue}

-- a test of one fact is a test of another that says the same
pub same_verdict : {E : Type 0} (r : Result Bool E) (P Q : Type 0) → P ↔ Q → IfOk r (λ b. IsTrue b ↔ P) → IfOk r (λ b. IsTrue b ↔ Q)
same_verdict (Ok b) P Q same h = (λ t. same.0 (h.0 t), λ q. h.1 (same.1 q))
same_verdict (Err e) P Q same h = h
