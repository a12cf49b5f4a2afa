use Rattle.std.proofs.lemmas.List.{take-take}
use Rattle.tiff_dirs.proofs.tests.walk_front.Goals as goal

pub walked-requires : goal.walked-requires
walked-requires c = rw (take-take 4 c.args.len c.args.file.now c.requires.least) c.requires.begins
