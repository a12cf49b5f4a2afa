-- A number that counts from 1 isn't 0.
use Rattle.std.proofs.Common.{◌≡◌, ◌+◌, ◌-◌, ◌*◌, ◌≤◌, ℕ, true, List, [], ◌∷◌, length, arith}
use Rattle.std.specs.Prelude.{◌==◌, ◌&&◌, not, nat_le}
use Rattle.std.specs.List.{fold, list_all}
use Rattle.std.specs.Char.{is_ascii_digit}
use Rattle.std.specs.Str.{byte}
use Rattle.std.proofs.lemmas.Bool.{and_parts, not-true, eqb-false}
use Rattle.std.proofs.lemmas.Bool.Decides.{nat_tests}
use Rattle.xmp_paths.specs.Grammar.{is_number, number}

abbrev further : ℕ → ℕ → ℕ
further n d = 10 * n + (d - byte "0")

grows : (a : ℕ) (ds : List ℕ) → a ≤ fold further a ds
grows a [] = omega arith
grows a (d ∷ ds) = let more = grows (further a d) ds in omega (arith, more)

digit_is : (d : ℕ) → is_ascii_digit d ≡ true → 48 ≤ d
digit_is d h = grind (arith, nat_tests)

pub counts_from_one : (ds : List ℕ) → is_number ds ≡ true → 1 ≤ number ds
counts_from_one [] h = absurd cc
counts_from_one (d ∷ ds) h =
    let all = and_parts (is_ascii_digit d && not (d == byte "0") && list_all is_ascii_digit ds) (nat_le (length ds) 8) h in
    let two = and_parts (is_ascii_digit d && not (d == byte "0")) (list_all is_ascii_digit ds) all.0 in
    let first = and_parts (is_ascii_digit d) (not (d == byte "0")) two.0 in
    let low = digit_is d first.0 in
    let other = eqb-false d 48 (not-true (d == byte "0") first.1) in
    let more = grows (further 0 d) ds in
    omega (arith, low, other, more)
