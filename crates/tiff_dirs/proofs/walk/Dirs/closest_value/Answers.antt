use Rattle.std.proofs.Common.{ap, ◌∙◌, arith}
use Rattle.std.specs.List.{slice_get}
use Rattle.tiff_dirs.specs.Tiff.{entries_in}
use Rattle.tiff_dirs.specs.Overlaps.{apart_of}
use Rattle.tiff_dirs.specs.Nearest.{closest}
use Rattle.tiff_dirs.proofs.Nearest.{values_more}
use Rattle.tiff_dirs.proofs.walk.Dirs.closest_value.Goals as goal

pub loop-i-preserved : goal.loop-i-preserved
loop-i-preserved c =
    values_more c.args.own (apart_of c.args.self.now.layout) c.loop-i.best c.closer_value-best.result (entries_in (slice_get c.args.self.now.dirs c.args.dir)) c.loop-i.i c.args.to c.entry.result
    c.entry.ensures (omega arith) (c.closer_value-best.ensures ∙ ap (λ l. closest c.args.own c.loop-i.best (apart_of l c.entry.result)) c.layout.ensures.is)
    ∙ c.loop-i.invariant
