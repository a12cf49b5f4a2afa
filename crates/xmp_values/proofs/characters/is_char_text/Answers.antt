use Rattle.std.specs.List.{list_all}
use Rattle.xmp_values.specs.Characters.{is_char}
use Rattle.xmp_values.proofs.CharacterTexts.{char_scalars, spells, spells_not, IsCharText-spells}
use Rattle.xmp_values.proofs.characters.is_char_text.Goals as goal

pub returns-in-Ok : goal.returns-in-Ok
returns-in-Ok c =
    let cases = c.in-Ok.ensures.cases in
    let bytes = c.args.bytes.now in
    let read = spells (list_all is_char) char_scalars bytes c.in-Ok.text.now c.has_chars_alone.result cases.0 cases.1 c.has_chars_alone.ensures in
    let as_spelled = IsCharText-spells bytes in (λ h. as_spelled.1 (read.0 h), λ h. read.1 (as_spelled.0 h))

pub returns-in-Err : goal.returns-in-Err
returns-in-Err c =
    let bytes = c.args.bytes.now in
    (λ h. absurd cc, λ h. absurd (spells_not (list_all is_char) char_scalars bytes c.in-Err.ensures.cases.0 ((IsCharText-spells bytes).0 h)))
