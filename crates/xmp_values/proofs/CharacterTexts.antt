-- Texts of characters that pass a test, and their UTF-8.
use Rattle.std.proofs.Common.{◌≡◌, ◌↔◌, ℕ, List, [], ◌∷◌, Bool, true, refl, sym, ap, ◌∙◌, ⊎_elim, arith}
use Rattle.std.specs.Prelude.{IsTrue, All, ◌&&◌, ◌||◌, nat_le, encode_utf8_all}
use Rattle.std.specs.List.{list_all}
use Rattle.std.specs.Str.{chars, IsUtf8}
use Rattle.std.proofs.Math.Utf8.{scalar, scalars}
use Rattle.std.proofs.lemmas.Bool.{and_parts, and_from, or_cases}
use Rattle.std.proofs.lemmas.Bool.Decides.{nat_tests}
use Rattle.std.proofs.lemmas.List.Elements.{All-nil, All-cons, All-head, All-tail}
use Rattle.std.proofs.lemmas.Str.{chars-encodes, encodes-chars}
use Rattle.xmp_values.specs.Characters.{is_within, char_ranges, name_start_ranges, further_ranges, is_char, is_name_start, is_name_char, is_name_of, IsCharText}

-- a range of scalar values alone
abbrev is_scalar_range : ℕ × ℕ → Bool
is_scalar_range range = nat_le range.1 0xD7FF || (nat_le 0xE000 range.0 && nat_le range.1 0x10FFFF)

scalar_between : (low high c : ℕ) → is_scalar_range (low, high) ≡ true → (nat_le low c && nat_le c high) ≡ true → scalar c ≡ true
scalar_between low high c fits within = grind (arith, nat_tests)

scalar_within : (ranges : List (ℕ × ℕ)) (c : ℕ) → list_all is_scalar_range ranges ≡ true → is_within ranges c ≡ true → scalar c ≡ true
scalar_within [] c fits within = absurd cc
scalar_within (range ∷ ranges) c fits within =
    let both = and_parts _ _ fits in
    ⊎_elim (scalar_between range.0 range.1 c both.0) (scalar_within ranges c both.1) (or_cases _ _ within)

char_scalar : (c : ℕ) → is_char c ≡ true → scalar c ≡ true
unfolding is_char
char_scalar c h = scalar_within char_ranges c refl h

start_scalar : (c : ℕ) → is_name_start c ≡ true → scalar c ≡ true
unfolding is_name_start
start_scalar c h = scalar_within name_start_ranges c refl h

name_char_scalar : (c : ℕ) → is_name_char c ≡ true → scalar c ≡ true
unfolding is_name_char
name_char_scalar c h = ⊎_elim (start_scalar c) (scalar_within further_ranges c refl) (or_cases _ _ h)

passing_scalars : (p : ℕ → Bool) → ((c : ℕ) → p c ≡ true → scalar c ≡ true) → (cs : List ℕ) → list_all p cs ≡ true → scalars cs ≡ true
passing_scalars p each [] h = refl
passing_scalars p each (c ∷ cs) h =
    let both = and_parts _ _ h in and_from _ _ (each c both.0) (passing_scalars p each cs both.1)

pub char_scalars : (cs : List ℕ) → list_all is_char cs ≡ true → scalars cs ≡ true
char_scalars = passing_scalars is_char char_scalar

pub name_scalars : (cs : List ℕ) → is_name_of cs ≡ true → scalars cs ≡ true
name_scalars [] h = absurd cc
name_scalars (c ∷ cs) h =
    let both = and_parts _ _ h in and_from _ _ (start_scalar c both.0) (passing_scalars is_name_char name_char_scalar cs both.1)

-- bytes that are the UTF-8 of a text that passes
abbrev Spells : (List ℕ → Bool) → List ℕ → Type 0
Spells test bytes = (cs : List ℕ) × (bytes ≡ encode_utf8_all cs) × (test cs ≡ true)

module _ (test : List ℕ → Bool) (fits : (cs : List ℕ) → test cs ≡ true → scalars cs ≡ true) (bytes : List ℕ) where
  -- bytes that are UTF-8 spell their characters alone
  pub spells : (text : List ℕ) (passes : Bool) → text ≡ bytes → IsUtf8 bytes → passes ≡ test (chars text) → IsTrue passes ↔ Spells test bytes
  spells text passes same utf8 tested = (
    λ h. (chars bytes, sym (encodes-chars bytes utf8), ap (λ t. test (chars t)) (sym same) ∙ sym tested ∙ h),
    λ h. let read : chars text ≡ h.0 = ap chars (same ∙ h.1) ∙ chars-encodes h.0 (fits h.0 h.2) in
        tested ∙ ap test read ∙ h.2,
  )

  -- bytes that are not UTF-8 spell nothing
  pub spells_not : (IsUtf8 bytes → ⊥) → Spells test bytes → ⊥
  spells_not not_utf8 h = not_utf8 (h.0, (fits h.0 h.2, sym h.1))

all_pass : (p : ℕ → Bool) (cs : List ℕ) → list_all p cs ≡ true → All (λ c. IsTrue (p c)) cs
all_pass p [] h = All-nil (λ c. IsTrue (p c))
all_pass p (c ∷ cs) h = let both = and_parts _ _ h in All-cons (λ c. IsTrue (p c)) c cs both.0 (all_pass p cs both.1)

pass_all : (p : ℕ → Bool) (cs : List ℕ) → All (λ c. IsTrue (p c)) cs → list_all p cs ≡ true
pass_all p [] h = refl
pass_all p (c ∷ cs) h =
    and_from _ _ (All-head (λ c. IsTrue (p c)) c cs h) (pass_all p cs (All-tail (λ c. IsTrue (p c)) c cs h))

pub IsCharText-spells : (bytes : List ℕ) → IsCharText bytes ↔ Spells (list_all is_char) bytes
IsCharText-spells bytes = (λ h. (h.0, h.1, pass_all is_char h.0 h.2), λ h. (h.0, h.1, all_pass is_char h.0 h.2))
