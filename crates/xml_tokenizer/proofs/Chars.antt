-- Facts on classes of characters.
use Rattle.std.proofs.Common.{◌≡◌, inl, inr, ℕ, false, arith}
use Rattle.std.proofs.lemmas.Bool.Decides.{nat_tests}
use Rattle.std.specs.Char.{OutOfScalarRange}
use Rattle.xmp_values.specs.Characters.{is_char}

-- what is no scalar value is no Char
pub no_char_out : (n : ℕ) → OutOfScalarRange n → is_char n ≡ false
unfolding is_char
no_char_out n out = elim out [ inl h ↦ grind (arith, nat_tests) | inr h ↦ grind (arith, nat_tests) ]
