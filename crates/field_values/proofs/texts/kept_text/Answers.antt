use Rattle.field_values.proofs.Encodings.{characters-utf8, characters-latin}
use Rattle.field_values.proofs.texts.kept_text.Goals as goal

pub returns-in-Ok : goal.returns-in-Ok
returns-in-Ok c =
    let same = c.in-Ok.ensures.cases in
    simp (characters-utf8 c.args.bytes.now same.1) (rw same.0 at c.kept_characters.ensures)

pub returns-in-Err : goal.returns-in-Err
returns-in-Err c =
    let other = c.in-Err.ensures.cases in
    simp (characters-latin c.args.bytes.now other.0) c.kept_latin.ensures
