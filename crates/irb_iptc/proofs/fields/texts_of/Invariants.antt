use Rattle.std.proofs.Common.{◌≡◌, ◌++◌, drop}
use Rattle.irb_iptc.specs.Fields.{texts_of}
use Rattle.irb_iptc.proofs.fields.texts_of.Given as goal

-- the texts so far, and those of the rest
abbrev pub invariant-loop-i : goal.invariant-loop-i
invariant-loop-i l = l.texts ++ texts_of l.number (drop l.i l.datasets) ≡ texts_of l.number l.datasets
