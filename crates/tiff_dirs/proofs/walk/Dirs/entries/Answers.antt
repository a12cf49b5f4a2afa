use Rattle.std.proofs.Common.{sym, ap}
use Rattle.tiff_dirs.specs.Tiff.{Tiff}
use Rattle.tiff_dirs.proofs.Kept.{count_is}
use Rattle.tiff_dirs.proofs.walk.Dirs.entries.Goals as goal

pub returns : goal.returns
returns c =
    let s = c.self.inside in
    sym (count_is c.args.self.now.dirs s.layout s.len s.pieces.items s.found.items (ap (λ (t : Tiff). t.dirs) c.self.view_is) c.self.invariant.2 c.args.dir c.index.result.now c.requires c.index.ensures)
