use Rattle.std.proofs.Common.{◌∙◌, List, ℕ, subst}
use Rattle.xmp_values.specs.Characters.{IsCharText}
use Rattle.field_values.proofs.CharTexts.{kept-all}
use Rattle.field_values.proofs.texts.kept_characters.Goals as goal

pub returns-then-is_char_text : goal.returns-then-is_char_text
returns-then-is_char_text c =
    c.in_ok-from_slice.ensures ∙ c.as_bytes-then-is_char_text.ensures.value
    ∙ kept-all c.args.text.now (subst (λ (t : List ℕ). IsCharText t) c.as_bytes.ensures.value (c.is_char_text.ensures.0 c.if-is_char_text.true))
