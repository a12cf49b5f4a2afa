use Rattle.std.proofs.Common.{◌≡◌, take}
use Rattle.std.specs.List.{list_all}
use Rattle.xml_tokenizer.specs.declared.classes.Class.TheVariants.{Char}
use Rattle.xml_tokenizer.specs.Classes.{is_sure}
use Rattle.xml_tokenizer.proofs.searches.are_char_bytes.Given as goal

abbrev pub invariant-loop-byte : goal.invariant-loop-byte
invariant-loop-byte l = l.sure ≡ list_all (is_sure Char) (take l.byte-index l.bytes)
