use Rattle.std.proofs.Common.{◌∙◌}
use Rattle.std.specs.List.{slice_get}
use Rattle.tiff_dirs.specs.Tiff.{entries_in}
use Rattle.tiff_dirs.proofs.Kept.{first_here, first_after, first_in}
use Rattle.tiff_dirs.proofs.walk.Dirs.first_tag.Goals as goal

pub returns-then-entry-tag : goal.returns-then-entry-tag
returns-then-entry-tag c =
    first_here c.args.tag (entries_in (slice_get c.args.self.now.dirs 0)) c.loop-i.i c.entry-entry.result c.entry-entry.ensures c.if-entry-tag.true c.loop-i.invariant
    ∙ first_in c.args.tag c.args.self.now.dirs

pub loop-i-preserved : goal.loop-i-preserved
loop-i-preserved c =
    first_after c.args.tag (entries_in (slice_get c.args.self.now.dirs 0)) c.loop-i.i c.entry-entry.result c.entry-entry.ensures c.if-entry-tag.false c.loop-i.invariant
