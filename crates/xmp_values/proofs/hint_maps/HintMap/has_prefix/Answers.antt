use Rattle.std.proofs.Common.{◌∙◌}
use Rattle.xmp_values.proofs.HintMaps.{is_had}
use Rattle.xmp_values.proofs.hint_maps.HintMap.has_prefix.Goals as goal

pub returns : goal.returns
returns c = c.is_some.ensures ∙ is_had c.space_of.result c.args.self.now c.args.prefix.now c.space_of.ensures
