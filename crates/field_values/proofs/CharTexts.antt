-- The text of a field is made of XML's Chars.
use Rattle.std.proofs.Common.{◌≡◌, ℕ, Bool, true, false, cond, List, [], ◌∷◌, Some, None, refl, sym, ap, subst, ◌∙◌, encode_utf8_all}
use Rattle.std.specs.Str.{chars}
use Rattle.std.specs.List.{filter, list_all}
use Rattle.std.proofs.lemmas.Bool.{and_parts}
use Rattle.std.proofs.lemmas.List.Elements.{filter_passes}
use Rattle.std.proofs.lemmas.Str.{chars-encodes}
use Rattle.xmp_values.proofs.CharacterTexts.{IsCharText-spells, char_scalars}
use Rattle.xmp_values.specs.Characters.{IsCharText, is_blank, is_char}
use Rattle.field_values.specs.FieldTexts.{characters, field_text, kept_text}

is_some_text : (blank : Bool) (kept text : List ℕ) → cond blank None (Some kept) ≡ Some text → kept ≡ text
is_some_text true kept text e = absurd (cc)
is_some_text false kept text e = cc

kept-chars : (bytes : List ℕ) → IsCharText (kept_text bytes)
kept-chars bytes = (filter is_char (characters bytes), refl, filter_passes is_char (characters bytes))

pub field_text-chars : (bytes text : List ℕ) → field_text bytes ≡ Some text → IsCharText text
unfolding field_text
field_text-chars bytes text e =
    subst (λ (t : List ℕ). IsCharText t) (is_some_text (list_all is_blank (kept_text bytes)) (kept_text bytes) text e) (kept-chars bytes)

-- a text of Chars alone is kept whole
kept_first : (b : Bool) (c : ℕ) (cs : List ℕ) → b ≡ true → cond b (c ∷ cs) cs ≡ c ∷ cs
kept_first true c cs e = refl
kept_first false c cs e = absurd (cc)

filter-all : (cs : List ℕ) → list_all is_char cs ≡ true → filter is_char cs ≡ cs
filter-all [] h = refl
filter-all (c ∷ cs) h =
    let both = and_parts (is_char c) (list_all is_char cs) h in
    kept_first (is_char c) c (filter is_char cs) both.0 ∙ ap (λ (l : List ℕ). c ∷ l) (filter-all cs both.1)

pub kept-all : (text : List ℕ) → IsCharText text → text ≡ encode_utf8_all (filter is_char (chars text))
kept-all text h =
    let spelled = (IsCharText-spells text).0 h in
    let read : chars text ≡ spelled.0 = ap chars spelled.1 ∙ chars-encodes spelled.0 (char_scalars spelled.0 spelled.2) in
    spelled.1 ∙ ap encode_utf8_all (sym (filter-all spelled.0 spelled.2)) ∙ ap (λ (l : List ℕ). encode_utf8_all (filter is_char l)) (sym read)
