use Rattle.std.proofs.Common.{drop}
use Rattle.xmp_files.specs.NewFiles.{parts_at}
use Rattle.xmp_files.proofs.Emits.{Standing}
use Rattle.xmp_files.proofs.emitting.put_parts.Given as goal

abbrev pub invariant-loop-part : goal.invariant-loop-part
invariant-loop-part g l =
    Standing (g.D.Desk.state l.initial.desk) (g.D.Desk.state l.desk) l.from l.to (parts_at l.bytes l.parts) (parts_at l.bytes (drop l.part-index l.parts)) l.end
