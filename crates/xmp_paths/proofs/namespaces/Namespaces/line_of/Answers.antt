use Rattle.std.proofs.Common.{◌∙◌, ap, subst}
use Rattle.xmp_values.specs.Hints.{space_in}
use Rattle.xmp_paths.specs.Parts.{Bindings}
use Rattle.xmp_paths.specs.Namespaces.{AreBound}
use Rattle.xmp_paths.proofs.LinePlaces.{space_found, space_missed}
use Rattle.xmp_paths.proofs.namespaces.Namespaces.line_of.Goals as goal

pub returns-in-Some-clause-line : goal.returns-in-Some-clause-line
returns-in-Some-clause-line c =
    space_found c.self.inside.places c.self.inside.lines c.self.invariant.1 c.args.prefix.now c.in-Some.at.now _ c.in-Some.ensures.value c.get-in-Some.ensures
    ∙ ap (λ (b : Bindings). space_in b.lines c.args.prefix.now) c.self.view_is

pub returns-in-None-clause-line : goal.returns-in-None-clause-line
returns-in-None-clause-line c =
    space_missed c.self.inside.places c.self.inside.lines c.self.invariant.1 c.args.prefix.now c.in-None.ensures.value
    ∙ ap (λ (b : Bindings). space_in b.lines c.args.prefix.now) c.self.view_is

pub returns-in-Some-clause-valid : goal.returns-in-Some-clause-valid
returns-in-Some-clause-valid c = subst AreBound c.self.view_is c.self.invariant.0

pub returns-in-None-clause-valid : goal.returns-in-None-clause-valid
returns-in-None-clause-valid c = subst AreBound c.self.view_is c.self.invariant.0
