use Rattle.field_values.proofs.CharTexts.{field_text-chars}
use Rattle.field_values.proofs.laws.texts_are_chars.Goals as goal

pub returns : goal.returns
returns c = field_text-chars
