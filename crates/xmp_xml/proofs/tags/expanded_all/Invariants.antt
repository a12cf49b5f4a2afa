use Rattle.std.proofs.Common.{◌≡◌, map}
use Rattle.xml_grammar.specs.Scopes.{expanded}
use Rattle.xmp_xml.proofs.tags.expanded_all.Given as goal

abbrev pub invariant-loop-attribute : goal.invariant-loop-attribute
invariant-loop-attribute l = l.attributes ≡ map (expanded l.scope) l.yielded
