use Rattle.std.proofs.Common.{◌≡◌, [], drop}
use Rattle.irb_iptc.specs.Fields.{distinct_after}
use Rattle.irb_iptc.proofs.repeats.first_seen.Given as goal

-- the rest after what has been seen gives what the whole gives
abbrev pub invariant-loop-text : goal.invariant-loop-text
invariant-loop-text l = distinct_after l.seen (drop l.text-index l.texts) ≡ distinct_after [] l.texts
