use Rattle.xmp_values.proofs.NameSets.{ApartBelow, Sees}
use Rattle.xmp_xml.proofs.InForce.{marked_name}
use Rattle.xmp_xml.proofs.scopes.Scope.are_apart.Given as goal

abbrev pub invariant-loop-attribute : goal.invariant-loop-attribute
invariant-loop-attribute l = record {
  apart : ApartBelow (marked_name l.self-inside.stack) l.plain l.attribute-index;
  sees : Sees (marked_name l.self-inside.stack) l.plain l.seen l.attribute-index;
}
