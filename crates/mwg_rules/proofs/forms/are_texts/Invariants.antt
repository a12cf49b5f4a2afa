use Rattle.std.proofs.Common.{◌≡◌, drop}
use Rattle.mwg_rules.specs.Forms.{are_texts}
use Rattle.mwg_rules.proofs.forms.are_texts.Given as goal

abbrev pub invariant-loop-i : goal.invariant-loop-i
invariant-loop-i l = are_texts l.texts l.items ≡ are_texts (drop l.i l.texts) (drop l.i l.items)
