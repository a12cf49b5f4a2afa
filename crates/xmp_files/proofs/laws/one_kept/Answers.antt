use Rattle.xmp_files.proofs.OneStep.{one_loaded}
use Rattle.xmp_files.proofs.laws.one_kept.Goals as goal

pub returns : goal.returns
returns c need file a b p q = one_loaded need file a b p q
