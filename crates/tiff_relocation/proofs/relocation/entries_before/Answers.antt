use Rattle.std.proofs.Common.{ap, ◌∙◌}
use Rattle.std.specs.List.{slice_get}
use Rattle.tiff_dirs.specs.Tiff.{entries_in}
use Rattle.tiff_relocation.specs.Relocation.{entries_before}
use Rattle.tiff_relocation.proofs.Finding.{first_entries, greater_here, greater_after}
use Rattle.tiff_relocation.proofs.relocation.entries_before.Goals as goal

pub returns-then-entry-gt-PACKET_TAG : goal.returns-then-entry-gt-PACKET_TAG
returns-then-entry-gt-PACKET_TAG c =
    greater_here (entries_in (slice_get c.args.dirs.now.dirs 0)) c.loop-i.i c.entry.result c.entry.ensures c.if-entry-gt-PACKET_TAG.true c.loop-i.invariant
    ∙ ap entries_before (first_entries c.args.dirs.now.dirs)

pub loop-i-preserved : goal.loop-i-preserved
loop-i-preserved c =
    greater_after (entries_in (slice_get c.args.dirs.now.dirs 0)) c.loop-i.i c.entry.result c.entry.ensures c.if-entry-gt-PACKET_TAG.false c.loop-i.invariant
