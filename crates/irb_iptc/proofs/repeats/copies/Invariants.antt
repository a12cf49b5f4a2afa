use Rattle.std.proofs.Common.{◌≡◌, take}
use Rattle.xmp_values.specs.Texts.{texts_of}
use Rattle.irb_iptc.proofs.repeats.copies.Given as goal

abbrev pub invariant-loop-text : goal.invariant-loop-text
invariant-loop-text l = l.copies ≡ texts_of (take l.text-index l.texts)
