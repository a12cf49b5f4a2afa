use Rattle.xml_tokenizer.proofs.Chars.{no_char_out}
use Rattle.xml_tokenizer.proofs.references.char_of.Goals as goal

pub returns-in_default-2 : goal.returns-in_default-2
returns-in_default-2 c = no_char_out c.args.number c.in_default.ensures.cases
