use Rattle.xmp_values.specs.Characters.{is_name_of}
use Rattle.xmp_values.proofs.CharacterTexts.{name_scalars, spells, spells_not}
use Rattle.xmp_values.proofs.characters.is_name.Goals as goal

pub returns-in-Ok : goal.returns-in-Ok
returns-in-Ok c =
    let cases = c.in-Ok.ensures.cases in
    spells is_name_of name_scalars c.args.bytes.now c.in-Ok.text.now c.is_name_text.result cases.0 cases.1 c.is_name_text.ensures

pub returns-in-Err : goal.returns-in-Err
returns-in-Err c =
    (λ h. absurd cc, λ h. absurd (spells_not is_name_of name_scalars c.args.bytes.now c.in-Err.ensures.cases.0 h))
