-- The law on edits: each allowed edit keeps well-formedness.
use Rattle.xmp_tree.specs.Parts.{Parts}
use Rattle.xmp_tree.specs.Wf.{Wf}
use Rattle.xmp_edit.specs.declared.edit.Edit.{Edit}
use Rattle.xmp_edit.specs.Allowed.{IsAllowed, IfGiven}
use Rattle.xmp_edit.specs.Scripts.{edited}

abbrev pub EditKeeps : Type 0
EditKeeps = (e : Edit) (t : Parts) → IsAllowed e → Wf t → IfGiven Wf (edited e t)
