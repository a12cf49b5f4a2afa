use Rattle.std.proofs.Common.{◌≡◌, map, take}
use Rattle.xmp_tree.specs.Parts.{simple}
use Rattle.mwg_rules.proofs.forms.simples.Given as goal

abbrev pub invariant-loop-text : goal.invariant-loop-text
invariant-loop-text l = l.items ≡ map simple (take l.text-index l.texts)
