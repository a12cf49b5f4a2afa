use Rattle.std.proofs.Common.{◌≡◌, drop}
use Rattle.irb_iptc.specs.Fields.{first_of}
use Rattle.irb_iptc.proofs.fields.first_of.Given as goal

-- what is sought in the rest is what is sought in the whole
abbrev pub invariant-loop-i : goal.invariant-loop-i
invariant-loop-i l = first_of l.number (drop l.i l.datasets) ≡ first_of l.number l.datasets
