use Rattle.std.proofs.Common.{◌∙◌, sym, ap}
use Rattle.std.specs.List.{list_all}
use Rattle.std.specs.Str.{chars}
use Rattle.xmp_values.specs.Characters.{is_char}
use Rattle.xml_tokenizer.specs.declared.classes.Class.TheVariants.{Char}
use Rattle.xml_tokenizer.specs.Classes.{is_sure}
use Rattle.xml_tokenizer.proofs.Found.{all_where_none_left}
use Rattle.xml_tokenizer.proofs.Sure.{all_sure}
use Rattle.xml_tokenizer.proofs.searches.are_chars.Goals as goal

pub returns-then-are_char_bytes : goal.returns-then-are_char_bytes
returns-then-are_char_bytes c = c.if-are_char_bytes.true ∙ sym (all_sure Char c.args.text.now c.utf8.text (ap (list_all (is_sure Char)) (sym c.as_bytes.ensures.value) ∙ sym c.are_char_bytes.ensures ∙ c.if-are_char_bytes.true))

pub returns-else-are_char_bytes : goal.returns-else-are_char_bytes
returns-else-are_char_bytes c = c.is_empty.ensures ∙ all_where_none_left is_char (chars c.args.text.now) c.past_run.result.now c.past_run.utf8 c.past_run.ensures.rest
