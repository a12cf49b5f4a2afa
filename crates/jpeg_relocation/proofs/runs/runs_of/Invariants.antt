use Rattle.std.proofs.Common.{◌≡◌}
use Rattle.jpeg_relocation.specs.Relocation.{kept}
use Rattle.jpeg_relocation.specs.Runs.{runs, part}
use Rattle.jpeg_relocation.specs.Roles.{IsNext}
use Rattle.jpeg_relocation.proofs.runs.runs_of.Given as goal

-- the runs of the regions so far
abbrev pub invariant-loop-i : goal.invariant-loop-i
invariant-loop-i l = record {
  next : IsNext l.joined l.regions l.i l.portion;
  spans : l.spans.items ≡ runs (kept l.joined (part l.regions l.fn.from.region l.i));
}
