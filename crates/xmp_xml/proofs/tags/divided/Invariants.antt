use Rattle.std.proofs.Common.{◌≡◌}
use Rattle.xmp_xml.specs.Tagging.{divided}
use Rattle.xmp_xml.proofs.tags.divided.Given as goal

abbrev pub invariant-loop-attribute : goal.invariant-loop-attribute
invariant-loop-attribute l = l.parts ≡ divided l.yielded
