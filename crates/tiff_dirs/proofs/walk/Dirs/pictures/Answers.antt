use Rattle.std.proofs.Common.{length, sym, ap, ◌∙◌}
use Rattle.tiff_dirs.specs.Tiff.{Tiff}
use Rattle.tiff_dirs.proofs.Counted.{count_is}
use Rattle.tiff_dirs.proofs.walk.Dirs.pictures.Goals as goal

pub returns : goal.returns
returns c =
    let s = c.self.inside in
    let kept = c.self.invariant.3 in
    kept.total ∙ sym (count_is s.layout.big s.pieces.items s.len s.pictures.list.items kept.each) ∙ ap (λ (t : Tiff). length t.pictures) c.self.view_is
