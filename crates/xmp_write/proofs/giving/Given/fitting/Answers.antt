use Rattle.std.proofs.Common.{sym, ap, ◌∙◌}
use Rattle.std.specs.Option.{option_copied}
use Rattle.xmp_write.proofs.GivingSteps.{has_prefix-prefix_in}
use Rattle.xmp_write.proofs.giving.Given.fitting.Goals as goal

pub may_give-requires : goal.may_give-requires
may_give-requires c = c.requires.hinted c.in_ok-prefix.prefix.now (has_prefix-prefix_in c.args.hints.now c.args.space.now c.in_ok-prefix.prefix.now (sym c.prefix_of.ensures ∙ ap option_copied c.in_ok-prefix.was))
