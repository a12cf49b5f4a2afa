use Rattle.std.proofs.Common.{◌∙◌, sym, ap}
use Rattle.xmp_paths.specs.Paths.{steps_found, is_reserved}
use Rattle.xmp_paths.proofs.AllowedPaths.{allowed}
use Rattle.xmp_paths.proofs.path.Path.named.Goals as goal

pub invariant_of-result : goal.invariant_of-result
invariant_of-result c =
    allowed c.args.spaces.now c.name_found.ensures.valid c.args.spelling.now c.requires c.in-Some.name c.in-Some-2.steps
    (sym c.in-Some.is ∙ c.in_ok-name.ensures.found) (sym c.in-Some-2.is ∙ c.in_ok-steps.ensures ∙ ap (steps_found c.args.spaces.now) c.as_slice.ensures)
    (ap (λ ss. is_reserved record { name = c.in-Some.name; steps = ss }) (sym c.as_slice-2.ensures) ∙ sym c.is_reserved.ensures ∙ c.if-is_reserved.false)
