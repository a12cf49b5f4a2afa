use Rattle.std.proofs.Common.{◌≡◌, fold, take}
use Rattle.xmp_values.specs.Texts.{texts_of}
use Rattle.xmp_write.specs.Prefixes.{with_prefix}
use Rattle.xmp_write.specs.Giving.{IsGiven}
use Rattle.xmp_write.proofs.giving.Given.push_spaces.Given as goal

abbrev pub invariant-loop-space : goal.invariant-loop-space
invariant-loop-space l = record {
  kept : IsGiven l.hints l.self;
  list : l.self.list ≡ fold (with_prefix l.hints) l.fn.self.list (texts_of (take l.space-index l.spaces));
}
