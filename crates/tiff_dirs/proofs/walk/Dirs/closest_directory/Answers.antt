use Rattle.std.proofs.Common.{◌∙◌, arith}
use Rattle.tiff_dirs.proofs.Nearest.{dirs_more}
use Rattle.tiff_dirs.proofs.walk.Dirs.closest_directory.Goals as goal

pub loop-dir-preserved : goal.loop-dir-preserved
loop-dir-preserved c =
    dirs_more c.args.own c.args.self.now.layout c.loop-dir.best c.closer-best.result c.closest_value-best.result c.args.self.now.dirs c.loop-dir.dir c.entries.result c.dir_span.result (omega arith)
    c.dir_span.ensures c.entries.ensures c.closer-best.ensures c.closest_value-best.ensures
    ∙ c.loop-dir.invariant
