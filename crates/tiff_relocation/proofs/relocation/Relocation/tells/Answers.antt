use Rattle.std.proofs.Common.{arith}
use Rattle.std.proofs.lemmas.Bool.{leb-true}
use Rattle.tiff_relocation.proofs.Words.{word_left}
use Rattle.tiff_relocation.proofs.relocation.Relocation.tells.Goals as goal

pub returns-else-self-eq8-clause-holds : goal.returns-else-self-eq8-clause-holds
returns-else-self-eq8-clause-holds c h =
    let few = leb-true c.args.len c.from.result h in
    word_left c.args.len c.args.self.now.layout.word (omega (arith, few, c.from.ensures)) c.requires.lies.widths.least_word
