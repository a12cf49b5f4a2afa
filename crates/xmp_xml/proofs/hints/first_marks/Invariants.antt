use Rattle.std.proofs.Common.{◌≡◌, length, take}
use Rattle.xml_grammar.specs.Trees.{first_hints}
use Rattle.xmp_xml.specs.Marks.{marked}
use Rattle.xmp_xml.proofs.Hinting.{Sees}
use Rattle.xmp_xml.proofs.hints.first_marks.Given as goal

abbrev pub invariant-loop-hint : goal.invariant-loop-hint
invariant-loop-hint l = record {
  firsts : marked l.marks (take l.hint-index l.all) ≡ first_hints (take l.hint-index l.all);
  count : length l.marks ≡ length (take l.hint-index l.all);
  sees : Sees l.seen (take l.hint-index l.all);
}
