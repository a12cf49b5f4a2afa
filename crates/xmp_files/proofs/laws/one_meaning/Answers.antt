use Rattle.xmp_files.proofs.OneStep.{one_held}
use Rattle.xmp_files.proofs.laws.one_meaning.Goals as goal

pub returns : goal.returns
returns c file a b p q = one_held file a b p q
