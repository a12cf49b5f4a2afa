use Rattle.std.proofs.Common.{◌≡◌, ◌+◌, drop, not}
use Rattle.std.specs.List.{prefix_len}
use Rattle.jpeg_relocation.specs.Relocation.{has_main}
use Rattle.jpeg_relocation.specs.Roles.{IsNext, goes_before}
use Rattle.jpeg_relocation.proofs.kept.place_of.Given as goal

-- the regions so far stand before the place
abbrev pub invariant-loop-i : goal.invariant-loop-i
invariant-loop-i l = record {
  next : IsNext l.joined l.regions l.i l.portion;
  first : l.first ≡ not (has_main l.regions);
  passed : l.i + prefix_len (goes_before l.joined (not (has_main l.regions))) (drop l.i l.regions) ≡ prefix_len (goes_before l.joined (not (has_main l.regions))) l.regions;
}
