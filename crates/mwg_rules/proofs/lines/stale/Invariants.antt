use Rattle.std.proofs.Common.{◌≡◌, take}
use Rattle.std.specs.Prelude.{flat_map}
use Rattle.xmp_tree.specs.Places.{value_named}
use Rattle.mwg_rules.specs.Properties.{name_of, properties}
use Rattle.mwg_rules.specs.Reconciled.{chosen}
use Rattle.mwg_rules.specs.Stale.{stale_line}
use Rattle.mwg_rules.proofs.lines.stale.Given as goal

abbrev pub invariant-loop-property : goal.invariant-loop-property
invariant-loop-property l = l.text.items ≡ flat_map (λ p. stale_line p (chosen l.c p) (value_named (name_of p) l.t.props)) (take l.property-index properties)
