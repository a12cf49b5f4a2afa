use Rattle.std.proofs.Common.{◌≡◌, take}
use Rattle.std.specs.Prelude.{flat_map}
use Rattle.jpeg_extended.specs.Heads.{bytes_in}
use Rattle.jpeg_extended.proofs.joiner.joined.Given as goal

abbrev pub invariant-loop-head : goal.invariant-loop-head
invariant-loop-head l = l.text.items ≡ flat_map (bytes_in l.kept) (take l.head-index l.heads)
