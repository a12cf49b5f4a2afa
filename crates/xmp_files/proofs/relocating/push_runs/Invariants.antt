use Rattle.std.proofs.Common.{◌≡◌, ◌++◌, take}
use Rattle.xmp_files.specs.NewFiles.{old_parts}
use Rattle.xmp_files.proofs.relocating.push_runs.Given as goal

abbrev pub invariant-loop-run : goal.invariant-loop-run
invariant-loop-run l = l.parts.items ≡ l.initial.parts.items ++ old_parts (take l.run-index l.runs)
