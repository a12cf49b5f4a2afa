-- Runs of characters, and given words.
use Rattle.std.specs.Prelude.{◌≡◌, IsTrue, chars, ℕ, Bool, true, false, nat_lt, ◌&&◌, ◌==◌, List, [], ◌∷◌, ◌++◌, Option, None, Some, is_some, length, if◌then◌else◌, encode_utf8_all}
use Rattle.std.specs.List.{list_all}
use Rattle.xmp_values.specs.Characters.{is_char}
use Rattle.xml_tokenizer.specs.Steps.{◌>>=◌}

-- the longest front that passes
abbrev pub taken : (ℕ → Bool) → List ℕ → List ℕ
taken p [] = []
taken p (c ∷ cs) = if p c then c ∷ taken p cs else []

-- what follows it
abbrev pub past : (ℕ → Bool) → List ℕ → List ℕ
past p [] = []
past p (c ∷ cs) = if p c then past p cs else c ∷ cs

abbrev pub starts_with : (ℕ → Bool) → List ℕ → Bool
starts_with p [] = false
starts_with p (c ∷ cs) = p c

-- the text without a front of characters that pass
abbrev pub Passes : (ℕ → Bool) → List ℕ → List ℕ → Type 0
Passes p text rest = (front : List ℕ) × IsTrue (list_all p front) × (text ≡ encode_utf8_all front ++ rest) × (chars text ≡ front ++ chars rest)

-- what follows a word, where the text begins with it
abbrev pub after : List ℕ → List ℕ → Option (List ℕ)
after [] cs = Some cs
after (w ∷ ws) [] = None
after (w ∷ ws) (c ∷ cs) = if c == w then after ws cs else None

abbrev pub begins : List ℕ → List ℕ → Bool
begins word cs = is_some (after word cs)

-- a word of ASCII characters: its bytes are its characters
abbrev pub is_ascii : List ℕ → Bool
is_ascii [] = true
is_ascii (b ∷ bs) = nat_lt b 128 && is_ascii bs

abbrev pub is_nil : List ℕ → Bool
is_nil [] = true
is_nil (c ∷ cs) = false

-- how many bytes the characters are in UTF-8
abbrev pub width : List ℕ → ℕ
width cs = length (encode_utf8_all cs)

-- what was read before, and what is still read
abbrev pub with_front : List ℕ → Option (List ℕ × List ℕ) → Option (List ℕ × List ℕ)
with_front front read = read >>= λ x. Some (front ++ x.0, x.1)

-- where the word stands nothing is passed; else one Char
abbrev pub found_or : ℕ → Option (List ℕ) → Option (List ℕ × List ℕ) → Option (List ℕ × List ℕ)
found_or c (Some rest) later = Some ([], rest)
found_or c None later = if is_char c then with_front (c ∷ []) later else None

-- Chars up to a word, and what follows the word
abbrev pub up_to : List ℕ → List ℕ → Option (List ℕ × List ℕ)
up_to word [] = None
up_to word (c ∷ cs) = found_or c (after word (c ∷ cs)) (up_to word cs)
