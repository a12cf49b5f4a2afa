use Rattle.std.proofs.Common.{◌∙◌, ap}
use Rattle.xmp_values.specs.Hints.{has_prefix}
use Rattle.xmp_paths.specs.Parts.{Bindings}
use Rattle.xmp_paths.proofs.LinePlaces.{is_bound_by}
use Rattle.xmp_paths.proofs.namespaces.Namespaces.is_bound.Goals as goal

pub returns : goal.returns
returns c =
    c.contains_key.ensures ∙ is_bound_by c.self.inside.places c.self.inside.lines c.self.invariant.1 c.args.prefix.now
    ∙ ap (λ (b : Bindings). has_prefix b.lines c.args.prefix.now) c.self.view_is
