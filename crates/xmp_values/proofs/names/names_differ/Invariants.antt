use Rattle.xmp_values.proofs.NameSets.{ApartBelow, Sees}
use Rattle.xmp_values.proofs.names.names_differ.Given as goal

abbrev pub invariant-loop-item : goal.invariant-loop-item
invariant-loop-item g l = record {
  apart : ApartBelow g.T.Named.name l.items l.item-index;
  sees : Sees g.T.Named.name l.items l.seen l.item-index;
}
