-- A name's text is made of Chars, and so is the URI of a node's type.
use Rattle.std.proofs.Common.{◌≡◌, ℕ, Bool, true, ◌&&◌, List, [], ◌∷◌, ◌++◌, refl, ⊎_elim, arith}
use Rattle.std.specs.Prelude.{nat_le}
use Rattle.std.specs.List.{list_all, list_any}
use Rattle.std.proofs.lemmas.Bool.{and_parts, and_from, or_cases, or_left, or_right}
use Rattle.std.proofs.lemmas.Bool.Decides.{nat_tests}
use Rattle.xmp_values.specs.Characters.{is_within, char_ranges, name_start_ranges, further_ranges, is_char, is_name_start, is_name_char, is_name_of, IsCharText, IsName}
use Rattle.xmp_values.specs.declared.text.Name.{Name}
use Rattle.xmp_values.proofs.CharacterTexts.{IsCharText-spells}
use Rattle.xml_grammar.specs.Sound.{IsSoundName}
use Rattle.xml_grammar.proofs.SoundPieces.{text_append}

-- a range inside one of these
abbrev is_covered : List (ℕ × ℕ) → ℕ × ℕ → Bool
is_covered ranges inner = list_any (λ (range : ℕ × ℕ). nat_le range.0 inner.0 && nat_le inner.1 range.1) ranges

between : (low high inner_low inner_high c : ℕ) → (nat_le low inner_low && nat_le inner_high high) ≡ true → (nat_le inner_low c && nat_le c inner_high) ≡ true
    → (nat_le low c && nat_le c high) ≡ true
between low high inner_low inner_high c covers within = grind (arith, nat_tests)

within_one : (ranges : List (ℕ × ℕ)) (low high c : ℕ) → is_covered ranges (low, high) ≡ true → (nat_le low c && nat_le c high) ≡ true → is_within ranges c ≡ true
within_one [] low high c covers within = absurd cc
within_one (range ∷ ranges) low high c covers within =
    ⊎_elim (λ here. or_left _ _ (between range.0 range.1 low high c here within)) (λ after. or_right _ _ (within_one ranges low high c after within))
    (or_cases _ _ covers)

within_all : (inner ranges : List (ℕ × ℕ)) (c : ℕ) → list_all (is_covered ranges) inner ≡ true → is_within inner c ≡ true → is_within ranges c ≡ true
within_all [] ranges c covers within = absurd cc
within_all (range ∷ inner) ranges c covers within =
    let parts = and_parts _ _ covers in
    ⊎_elim (within_one ranges range.0 range.1 c parts.0) (within_all inner ranges c parts.1) (or_cases _ _ within)

start_char : (c : ℕ) → is_name_start c ≡ true → is_char c ≡ true
unfolding is_name_start is_char
start_char c h = within_all name_start_ranges char_ranges c refl h

name_char : (c : ℕ) → is_name_char c ≡ true → is_char c ≡ true
unfolding is_name_char is_char
name_char c h = ⊎_elim (start_char c) (within_all further_ranges char_ranges c refl) (or_cases _ _ h)

name_chars : (cs : List ℕ) → list_all is_name_char cs ≡ true → list_all is_char cs ≡ true
name_chars [] h = refl
name_chars (c ∷ cs) h = let both = and_parts _ _ h in and_from _ _ (name_char c both.0) (name_chars cs both.1)

chars_of_name : (cs : List ℕ) → is_name_of cs ≡ true → list_all is_char cs ≡ true
chars_of_name [] h = absurd cc
chars_of_name (c ∷ cs) h = let both = and_parts _ _ h in and_from _ _ (start_char c both.0) (name_chars cs both.1)

name_text : (bytes : List ℕ) → IsName bytes → IsCharText bytes
name_text bytes (cs, is, named) = (IsCharText-spells bytes).1 (cs, is, chars_of_name cs named)

pub uri_text : (n : Name) → IsSoundName n → IsCharText (n.space ++ n.local)
uri_text n sound = text_append n.space n.local sound.chars (name_text n.local sound.named)
