use Rattle.std.proofs.Common.{◌≡◌, ◌+◌, ◌*◌, ◌≤◌, length, false}
use Rattle.std.specs.List.{All}
use Rattle.tiff_dirs.specs.Parts.{entries_in_part}
use Rattle.tiff_dirs.specs.Faults.{entries_fault}
use Rattle.tiff_dirs.specs.Decoding.{entries_of}
use Rattle.tiff_dirs.specs.Walking.{Lies}
use Rattle.tiff_dirs.proofs.decoding.check_entries.Given as goal

-- what is left is the rest of the entries, with what is left of their faults
abbrev pub invariant-loop-left : goal.invariant-loop-left
invariant-loop-left l =
    let e = l.entries in
    let rest = entries_in_part e.layout e.part.start e.part.bytes.now l.next l.left in
    record {
      fault : entries_fault e.layout e.part.len l.first l.seen rest ≡ entries_fault e.layout e.part.len l.first false (entries_of e);
      room : l.next + e.layout.entry * l.left ≤ length e.part.bytes.now;
      lie : All (Lies e.layout e.part.len) rest → All (Lies e.layout e.part.len) (entries_of e);
    }

abbrev pub decreases-loop-left : goal.decreases-loop-left
decreases-loop-left l = l.left
