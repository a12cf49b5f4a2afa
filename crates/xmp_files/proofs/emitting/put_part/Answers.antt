use Rattle.std.proofs.Common.{sym, subst}
use Rattle.xmp_files.specs.declared.parts.FilePart.{FilePart}
use Rattle.xmp_files.specs.NewFiles.{part_at}
use Rattle.xmp_files.specs.Emitting.{PartCall}
use Rattle.xmp_files.proofs.Emits.{part_put}
use Rattle.xmp_files.proofs.emitting.put_part.Goals as goal

pub returns-in-Old : goal.returns-in-Old
returns-in-Old g c =
    let s = g.D.Desk.state c.args.desk.now in
    let t = g.D.Desk.state c.put_range.new.desk in
    record {
      call = subst (λ (p : FilePart). PartCall s t c.args.from.now c.args.to.now (part_at c.args.bytes.now p) c.put_range.result) (sym c.in-Old.is) c.put_range.ensures.call;
    }

pub returns-in-New : goal.returns-in-New
returns-in-New g c =
    let s = g.D.Desk.state c.args.desk.now in
    let t = g.D.Desk.state c.put_pieces.new.desk in
    record {
      call = subst (λ (p : FilePart). PartCall s t c.args.from.now c.args.to.now (part_at c.args.bytes.now p) c.put_pieces.result) (sym c.in-New.is)
          (part_put s t c.args.from.now c.args.to.now _ c.put_pieces.result c.put_pieces.ensures.call);
    }
