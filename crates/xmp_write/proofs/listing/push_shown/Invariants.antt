use Rattle.std.proofs.Common.{◌≡◌, ◌≤◌, ◌++◌, take}
use Rattle.std.specs.Prelude.{slice_range}
use Rattle.xmp_write.specs.Lines.{shown}
use Rattle.xmp_write.proofs.listing.push_shown.Given as goal

-- the text so far is written, but for the run that begins at `from`
abbrev pub invariant-loop-at : goal.invariant-loop-at
invariant-loop-at l = record {
  within : l.from ≤ l.at;
  put : l.out.items ++ slice_range l.text l.from l.at ≡ l.fn.out.items ++ shown (take l.at l.text);
}
