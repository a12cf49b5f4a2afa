use Rattle.std.proofs.Common.{◌≡◌}
use Rattle.xmp_base.specs.Device.{Told, bytes_of}
use Rattle.xmp_base.specs.Windows.{MovesInside}
use Rattle.jpeg_regions.specs.Cutting.{CutSoFar, Numbers, left}
use Rattle.jpeg_regions.specs.FromDesk.{CutCalls}
use Rattle.jpeg_regions.proofs.list.Regions.cut_known.Given as goal

abbrev pub invariant-loop-next : goal.invariant-loop-next
invariant-loop-next g l =
    let old = g.D.Desk.state l.initial.desk in
    let new = g.D.Desk.state l.desk in
    record {
      calls : CutCalls old new l.name;
      inside : MovesInside l.name 0 l.len old.reads new.reads;
      lens : new.lens ≡ old.lens;
      numbers : Numbers l.len l.found.items l.next;
      cut : Told old.files (λ files. CutSoFar (bytes_of files l.name) l.found.items l.next);
    }

abbrev pub decreases-loop-next : goal.decreases-loop-next
decreases-loop-next g l = left l.next
