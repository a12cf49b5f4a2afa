use Rattle.std.specs.List.{slice_get}
use Rattle.tiff_dirs.specs.Tiff.{entries_in}
use Rattle.tiff_dirs.proofs.Nearest.{place_here, place_after}
use Rattle.tiff_dirs.proofs.walk.Dirs.place_of.Goals as goal

pub returns-then-entry-tag : goal.returns-then-entry-tag
returns-then-entry-tag c =
    place_here c.args.tag (entries_in (slice_get c.args.self.now.dirs 0)) c.loop-i.i c.entry.result c.entry.ensures c.if-entry-tag.true c.loop-i.invariant

pub loop-i-preserved : goal.loop-i-preserved
loop-i-preserved c =
    place_after c.args.tag (entries_in (slice_get c.args.self.now.dirs 0)) c.loop-i.i c.entry.result c.entry.ensures c.if-entry-tag.false c.loop-i.invariant
