use Rattle.std.proofs.Common.{[], refl}
use Rattle.std.specs.Prelude.{codes}
use Rattle.xml_grammar.proofs.TreeEvents.{element}
use Rattle.xml_grammar.proofs.Worked.{empty_document, bad_char, twice_attribute, bad_reference, unfinished, outside_root, zero_reference, mismatch, utf16, too_deep}
use Rattle.xml_grammar.proofs.laws.worked_texts.Goals as goal

pub returns-clause-document : goal.returns-clause-document
returns-clause-document c = (element 0 (record { space = []; local = codes "a" }) [] [], refl, refl, refl, empty_document)

pub returns-clause-bracket : goal.returns-clause-bracket
returns-clause-bracket c = bad_char

pub returns-clause-twice : goal.returns-clause-twice
returns-clause-twice c = twice_attribute

pub returns-clause-entity : goal.returns-clause-entity
returns-clause-entity c = bad_reference

pub returns-clause-open_still : goal.returns-clause-open_still
returns-clause-open_still c = unfinished

pub returns-clause-second_root : goal.returns-clause-second_root
returns-clause-second_root c = outside_root

pub returns-clause-no_char : goal.returns-clause-no_char
returns-clause-no_char c = zero_reference

pub returns-clause-other_end : goal.returns-clause-other_end
returns-clause-other_end c = mismatch

pub returns-clause-utf16 : goal.returns-clause-utf16
returns-clause-utf16 c = utf16

pub returns-clause-deep : goal.returns-clause-deep
returns-clause-deep c = too_deep
