-- The characters of XML 1.0 (fifth edition), productions 2 to 5, the names without the colon,
-- which Namespaces in XML 1.0 takes out of them (NCName).
use Rattle.std.specs.Prelude.{ℕ, Bool, false, nat_le, ◌&&◌, ◌||◌, ◌≡◌, IsTrue, All, List, [], ◌∷◌, encode_utf8_all}
use Rattle.std.specs.List.{list_all}

-- a character of one of these ranges, each given by its first and its last
abbrev pub is_within : List (ℕ × ℕ) → ℕ → Bool
is_within [] c = false
is_within (range ∷ ranges) c = (nat_le range.0 c && nat_le c range.1) || is_within ranges c

-- production 2, Char
abbrev pub char_ranges : List (ℕ × ℕ)
char_ranges = (0x9, 0xA) ∷ (0xD, 0xD) ∷ (0x20, 0xD7FF) ∷ (0xE000, 0xFFFD) ∷ (0x10000, 0x10FFFF) ∷ []

unfoldable pub is_char : ℕ → Bool
is_char = is_within char_ranges

-- production 3, white space
unfoldable pub is_blank : ℕ → Bool
is_blank = is_within ((0x9, 0xA) ∷ (0xD, 0xD) ∷ (0x20, 0x20) ∷ [])

-- production 4, NameStartChar without the colon
abbrev pub name_start_ranges : List (ℕ × ℕ)
name_start_ranges = (
    (0x41, 0x5A) ∷ (0x5F, 0x5F) ∷ (0x61, 0x7A) ∷ (0xC0, 0xD6) ∷ (0xD8, 0xF6) ∷ (0xF8, 0x2FF) ∷ (0x370, 0x37D) ∷ (0x37F, 0x1FFF)
    ∷ (0x200C, 0x200D) ∷ (0x2070, 0x218F) ∷ (0x2C00, 0x2FEF) ∷ (0x3001, 0xD7FF) ∷ (0xF900, 0xFDCF) ∷ (0xFDF0, 0xFFFD) ∷ (0x10000, 0xEFFFF) ∷ [])

unfoldable pub is_name_start : ℕ → Bool
is_name_start = is_within name_start_ranges

-- production 4a, NameChar without the colon: what may start a name, and these
abbrev pub further_ranges : List (ℕ × ℕ)
further_ranges = (0x2D, 0x2E) ∷ (0x30, 0x39) ∷ (0xB7, 0xB7) ∷ (0x300, 0x36F) ∷ (0x203F, 0x2040) ∷ []

unfoldable pub is_name_char : ℕ → Bool
is_name_char c = is_name_start c || is_within further_ranges c

-- production 5, a name without colon, of characters
abbrev pub is_name_of : List ℕ → Bool
is_name_of [] = false
is_name_of (c ∷ cs) = is_name_start c && list_all is_name_char cs

-- the UTF-8 of Chars
abbrev pub IsCharText : List ℕ → Type 0
IsCharText bytes = (cs : List ℕ) × (bytes ≡ encode_utf8_all cs) × All (λ c. IsTrue (is_char c)) cs

-- the UTF-8 of a name without colon
abbrev pub IsName : List ℕ → Type 0
IsName bytes = (cs : List ℕ) × (bytes ≡ encode_utf8_all cs) × IsTrue (is_name_of cs)
