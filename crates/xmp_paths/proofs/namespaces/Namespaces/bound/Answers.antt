use Rattle.std.proofs.Common.{◌∙◌, ◌++◌, [], ◌∷◌, ap, subst, sym}
use Rattle.std.specs.Prelude.{All}
use Rattle.std.proofs.lemmas.List.Elements.{All-push}
use Rattle.xmp_values.specs.Hints.{IsValidHint}
use Rattle.xmp_paths.specs.LinePlaces.{HasLinePlaces}
use Rattle.xmp_paths.proofs.namespaces.Namespaces.bound.Goals as goal

pub invariant_of-result : goal.invariant_of-result
invariant_of-result c = (
  record {
    lines = subst (All IsValidHint) (sym c.in_ok-push.ensures.ok) (All-push IsValidHint c.self.inside.lines c.args.line c.self.invariant.0.lines c.requires);
    hints = c.self.invariant.0.hints;
  },
  subst (HasLinePlaces c.in_ok-places.places) (ap (λ lines. lines ++ c.args.line ∷ []) c.as_slice.ensures ∙ sym c.in_ok-push.ensures.ok) c.in_ok-places.ensures,
)
