-- The test of names in bytes.
use Rattle.std.proofs.Common.{◌≡◌, ◌↔◌, ◌∙◌, ℕ, length, Bool, true, false, List, [], cond, Some, None, ap, sym, refl, arith}
use Rattle.std.specs.Prelude.{◌&&◌}
use Rattle.std.specs.List.{position_or_len, before_first, after_first}
use Rattle.std.specs.Str.{chars, IsUtf8, is_utf8}
use Rattle.std.proofs.Math.Bool.{and-false}
use Rattle.std.proofs.Math.ListN.{drop_of_length-le}
use Rattle.std.proofs.lemmas.Bool.{and_parts, and_from}
use Rattle.std.proofs.lemmas.Str.{chars-nil, chars-encodes, encodes-chars, IsUtf8-from_is_utf8, is_utf8-from_IsUtf8}
use Rattle.xmp_values.specs.Characters.{is_name_of, IsName}
use Rattle.xmp_values.proofs.CharacterTexts.{name_scalars}
use Rattle.xmp_paths.specs.Grammar.{is_name, is_colon, prefixed}

pub is_name-IsName : (bytes : List ℕ) → IsName bytes ↔ (is_name bytes ≡ true)
is_name-IsName bytes = (
  λ h. let scalar = name_scalars h.0 h.2 in
      let utf8 : IsUtf8 bytes = (h.0, (scalar, sym h.1)) in
      let spelled : chars bytes ≡ h.0 = ap chars h.1 ∙ chars-encodes h.0 scalar in
      and_from _ _ (is_utf8-from_IsUtf8 bytes utf8) (ap is_name_of spelled ∙ h.2),
  λ h. let both = and_parts _ _ h in
      (chars bytes, sym (encodes-chars bytes (IsUtf8-from_is_utf8 bytes both.0)), both.1),
)

-- two tests of one fact
pub same_test : (a b : Bool) → (a ≡ true → b ≡ true) → (b ≡ true → a ≡ true) → a ≡ b
same_test true b over back = sym (over refl)
same_test false true over back = back refl
same_test false false over back = refl

is_name-nil : is_name [] ≡ false
is_name-nil = ap (λ cs. is_utf8 [] && is_name_of cs) chars-nil ∙ and-false (is_utf8 [])

-- a text with no colon has no two parts
pub prefixed-no_colon : (text : List ℕ) → position_or_len is_colon text ≡ length text → prefixed text ≡ None
prefixed-no_colon text none =
    let nothing : after_first is_colon text ≡ [] = drop_of_length-le text (omega (arith, none)) in
    let fails : is_name (after_first is_colon text) ≡ false = ap is_name nothing ∙ is_name-nil in
    let both = ap (λ b. is_name (before_first is_colon text) && b) fails ∙ and-false (is_name (before_first is_colon text)) in
    ap (λ b. cond b (Some record { prefix = before_first is_colon text; local = after_first is_colon text }) None) both
