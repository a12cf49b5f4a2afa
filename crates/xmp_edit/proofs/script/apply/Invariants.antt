use Rattle.std.proofs.Common.{◌≡◌, drop}
use Rattle.xmp_edit.specs.Scripts.{edits_made}
use Rattle.xmp_edit.proofs.script.apply.Given as goal

abbrev pub invariant-loop-edit : goal.invariant-loop-edit
invariant-loop-edit l = edits_made (drop l.edit-index l.edit-items) l.draft ≡ edits_made l.fn.s.edits l.fn.t
