use Rattle.xmp_write.proofs.PrefixLaws.{prefix_law}
use Rattle.xmp_write.proofs.laws.prefixes_are_told_apart.Goals as goal

pub returns : goal.returns
returns c = prefix_law
