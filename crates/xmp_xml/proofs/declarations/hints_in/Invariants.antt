use Rattle.std.proofs.Common.{◌≡◌, take}
use Rattle.std.specs.List.{filter_map}
use Rattle.xml_grammar.specs.Trees.{hint_of}
use Rattle.xmp_xml.specs.Bounds.{bindings_in}
use Rattle.xmp_xml.proofs.declarations.hints_in.Given as goal

abbrev pub invariant-loop-bound : goal.invariant-loop-bound
invariant-loop-bound l = l.hints ≡ filter_map hint_of (bindings_in (take l.bound-index l.list))
