use Rattle.std.proofs.Common.{◌∙◌}
use Rattle.xmp_rdf.proofs.HintSets.{apart_by}
use Rattle.xmp_rdf.proofs.hints.new_hints.Goals as goal

pub returns : goal.returns
returns c = c.hints_apart.ensures ∙ apart_by c.args.main.now c.args.more c.in_ok-spaces.spaces c.in_ok-spaces.ensures
