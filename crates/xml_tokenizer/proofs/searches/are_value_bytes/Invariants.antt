use Rattle.std.proofs.Common.{◌≡◌, take}
use Rattle.std.specs.List.{list_all}
use Rattle.xml_tokenizer.specs.Classes.{is_value_byte}
use Rattle.xml_tokenizer.proofs.searches.are_value_bytes.Given as goal

abbrev pub invariant-loop-byte : goal.invariant-loop-byte
invariant-loop-byte l = l.sure ≡ list_all is_value_byte (take l.byte-index l.bytes)
