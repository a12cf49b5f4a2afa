use Rattle.xmp_files.proofs.OneStep as one
use Rattle.xmp_files.proofs.laws.one_opened.Goals as goal

pub returns : goal.returns
returns c kept a b p q = one.one_opened kept a b p q
