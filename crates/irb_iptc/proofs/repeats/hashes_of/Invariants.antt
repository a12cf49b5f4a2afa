use Rattle.std.proofs.Common.{◌≡◌, map, take}
use Rattle.irb_iptc.specs.Hashes.{hash_of}
use Rattle.irb_iptc.proofs.repeats.hashes_of.Given as goal

abbrev pub invariant-loop-text : goal.invariant-loop-text
invariant-loop-text l = l.hashes.items ≡ map hash_of (take l.text-index l.texts)
