-- The name of a text is 32 digits in capitals.
use Rattle.std.proofs.Common.{◌≡◌, ℕ, ◌*◌, ◌/◌, ◌%◌, ◌<◌, true, IsTrue, List, [], ◌∷◌, length, get_or, refl, arith}
use Rattle.std.specs.List.{All, AllByRecursion}
use Rattle.std.proofs.lemmas.List.Elements.{All-cons, All-nil}
use Rattle.std.proofs.lemmas.List.Sums.{AllPass-from_list_all}
use Rattle.xmp_values.specs.Digits.{AreCapitals, is_capital}
use Rattle.hex.specs.Hex.{encode_with, encode_upper, upper_digits}
use Rattle.md5.specs.Md5.{md5, digest_bytes}
use Rattle.jpeg_extended.specs.Written.{name_text}

capital_digit : (n : ℕ) → n < 16 → is_capital (get_or upper_digits n 0) ≡ true
unfolding is_capital
capital_digit n h = AllPass-from_list_all is_capital upper_digits refl n 0 h

-- bytes, which are numbers below 256
abbrev AreBytes : List ℕ → Type 0
AreBytes bs = AllByRecursion (λ b. b < 256) bs

encoded_len : (bs : List ℕ) → length (encode_upper bs) ≡ 2 * length bs
unfolding encode_with
encoded_len [] = refl
encoded_len (b ∷ bs) = omega (arith, encoded_len bs)

encoded_all : (bs : List ℕ) → AreBytes bs → All (λ b. IsTrue (is_capital b)) (encode_upper bs)
unfolding encode_with
encoded_all [] h = All-nil (λ b. IsTrue (is_capital b))
encoded_all (b ∷ bs) h =
    let high : b / 16 < 16 = omega (arith, h.0) in
    let low : b % 16 < 16 = omega arith in
    All-cons (λ c. IsTrue (is_capital c)) (get_or upper_digits (b / 16) 0) (get_or upper_digits (b % 16) 0 ∷ encode_upper bs) (capital_digit (b / 16) high)
    (All-cons (λ c. IsTrue (is_capital c)) (get_or upper_digits (b % 16) 0) (encode_upper bs) (capital_digit (b % 16) low) (encoded_all bs h.1))

digest_len : (text : List ℕ) → length (md5 text) ≡ 16
unfolding md5 digest_bytes
digest_len text = refl

bound : (n : ℕ) → n % 256 < 256
bound n = omega arith

digest_all : (text : List ℕ) → AreBytes (md5 text)
unfolding md5 digest_bytes
digest_all text = (bound _, (bound _, (bound _, (bound _, (bound _, (bound _, (bound _, (bound _, (bound _, (bound _, (bound _, (bound _, (bound _, (bound _, (bound _, (bound _, tt))))))))))))))))

pub name_capitals : (text : List ℕ) → AreCapitals (name_text text)
name_capitals text = (omega (arith, encoded_len (md5 text), digest_len text), encoded_all (md5 text) (digest_all text))
