-- Which of the two encodings a field's bytes have.
use Rattle.std.proofs.Common.{◌≡◌, ℕ, Bool, true, false, cond, List, refl}
use Rattle.std.specs.Str.{chars, is_utf8, IsUtf8}
use Rattle.std.proofs.lemmas.Str.{is_utf8-from_IsUtf8, IsUtf8-from_is_utf8}
use Rattle.field_values.specs.FieldTexts.{characters}

chosen_first : (b : Bool) (xs ys : List ℕ) → b ≡ true → cond b xs ys ≡ xs
chosen_first true xs ys e = refl
chosen_first false xs ys e = absurd (cc)

chosen_second : (b : Bool) (xs ys : List ℕ) → (b ≡ true → ⊥) → cond b xs ys ≡ ys
chosen_second true xs ys n = absurd (n refl)
chosen_second false xs ys n = refl

pub characters-utf8 : (bytes : List ℕ) → IsUtf8 bytes → characters bytes ≡ chars bytes
characters-utf8 bytes u = chosen_first (is_utf8 bytes) (chars bytes) bytes (is_utf8-from_IsUtf8 bytes u)

pub characters-latin : (bytes : List ℕ) → (IsUtf8 bytes → ⊥) → characters bytes ≡ bytes
characters-latin bytes n = chosen_second (is_utf8 bytes) (chars bytes) bytes (λ e. n (IsUtf8-from_is_utf8 bytes e))
