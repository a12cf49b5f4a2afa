-- Digits in capitals are their own capitals.
use Rattle.std.proofs.Common.{◌≡◌, ℕ, zero, suc, ◌/◌, ◌%◌, List, [], ◌∷◌, map, get_or, refl}
use Rattle.xmp_values.specs.Digits.{capital}
use Rattle.hex.specs.Hex.{encode_with, encode_upper, upper_digits}

digit_at : (ds : List ℕ) (n : ℕ) → map capital ds ≡ ds → capital 0 ≡ 0 → capital (get_or ds n 0) ≡ get_or ds n 0
digit_at [] n e none = none
digit_at (d ∷ ds) zero e none = cc e
digit_at (d ∷ ds) (suc n) e none = digit_at ds n (cc e) none

table : map capital upper_digits ≡ upper_digits
unfolding capital
table = refl

outside : capital 0 ≡ 0
unfolding capital
outside = refl

pub capitals : (bytes : List ℕ) → map capital (encode_upper bytes) ≡ encode_upper bytes
unfolding encode_with
capitals [] = refl
capitals (b ∷ bytes) = (λ i. digit_at upper_digits (b / 16) table outside i ∷ digit_at upper_digits (b % 16) table outside i ∷ capitals bytes i)
