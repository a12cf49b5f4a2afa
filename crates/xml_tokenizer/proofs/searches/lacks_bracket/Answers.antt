use Rattle.std.proofs.Common.{List, ℕ, ◌∙◌, not, ap, subst}
use Rattle.memchr.specs.Find.{IsFirstByte, is_byte}
use Rattle.xml_tokenizer.proofs.Found.{no_bracket}
use Rattle.xml_tokenizer.proofs.searches.lacks_bracket.Goals as goal

pub returns : goal.returns
returns c = λ lacks.
    let f = subst (λ (t : List ℕ). IsFirstByte (is_byte 0x5D) t c.memchr.result) c.as_bytes.ensures.value c.memchr.ensures in
    no_bracket c.args.text.now c.memchr.result c.utf8.text f (c.is_none.ensures ∙ ap not lacks)
