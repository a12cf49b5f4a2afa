use Rattle.std.proofs.Common.{◌∙◌, ap, drop}
use Rattle.std.proofs.lemmas.List.{drop-drop}
use Rattle.xmp_xml.proofs.scopes.Scope.left.Goals as goal

pub loop-preserved : goal.loop-preserved
loop-preserved c = c.in_ok-scope.ensures ∙ ap (drop 1) c.loop.invariant ∙ drop-drop 1 c.loop.counter c.args.self
