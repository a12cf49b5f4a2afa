-- The open elements of a builder.
use Rattle.std.proofs.Common.{◌≡◌, eqb, List, [], ◌∷◌, length, refl, sym, arith}
use Rattle.std.proofs.lemmas.Bool.{ne_eqb}
use Rattle.std.proofs.Common.{true, ◌++◌}
use Rattle.xmp_xml.specs.Building.{is_nil}

pub nil_is : {A : Type 0} (xs : List A) → is_nil xs ≡ eqb (length xs) 0
nil_is [] = refl
nil_is (x ∷ xs) = sym (ne_eqb _ _ (λ e. omega arith))

pub nil_front : {A : Type 0} (xs ys : List A) → is_nil xs ≡ true → xs ++ ys ≡ ys
nil_front [] ys e = refl
nil_front (x ∷ xs) ys e = absurd cc
