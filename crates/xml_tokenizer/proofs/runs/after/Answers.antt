use Rattle.xml_tokenizer.proofs.Words.{word_cases}
use Rattle.xml_tokenizer.proofs.runs.after.Goals as goal

pub returns : goal.returns
returns c = word_cases c.args.word.now c.args.text.now c.strip_prefix.result c.requires c.utf8.text c.strip_prefix.ensures.cases
