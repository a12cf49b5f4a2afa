use Rattle.std.proofs.Common.{◌≡◌, drop}
use Rattle.std.specs.List.{list_any}
use Rattle.xmp_xml.specs.Tagging.{lacks_one}
use Rattle.xmp_xml.proofs.tags.any_lacks.Given as goal

abbrev pub invariant-loop-attribute : goal.invariant-loop-attribute
invariant-loop-attribute l = list_any (lacks_one l.scope) (drop l.attribute-index l.plain) ≡ list_any (lacks_one l.scope) l.plain
