use Rattle.tiff_relocation.proofs.Words.{room_left}
use Rattle.tiff_relocation.proofs.relocation.Relocation.push_head.Goals as goal

pub push_number-requires-clause-fits : goal.push_number-requires-clause-fits
push_number-requires-clause-fits c =
    room_left c.args.self.now.copied c.args.self.now.entries c.args.self.now.layout.count c.if-self.true c.requires.room c.requires.lies.widths.least_count
