use Rattle.xmp_edit.proofs.WholeTrees.{edit_kept}
use Rattle.xmp_edit.proofs.laws.edit_keeps.Goals as goal

pub returns : goal.returns
returns c = edit_kept
