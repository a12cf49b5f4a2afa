use Rattle.std.proofs.Common.{◌≡◌, refl, ap, ◌∙◌}
use Rattle.xmp_values.specs.Hints.{IsValidHint, has_space}
use Rattle.xmp_values.proofs.ValidHints.{stays_valid}
use Rattle.xmp_values.proofs.hints.Hints.stays_valid.Goals as goal

pub returns-then-is_valid_hint : goal.returns-then-is_valid_hint
returns-then-is_valid_hint c =
    let hints = c.args.self.now in
    let hint = c.args.hint.now in
    let valid : IsValidHint hint = c.if-is_valid_hint.ensures.0 refl in
    let is : c.has_space.result ≡ has_space hints hint.space =
    c.has_space.ensures ∙ ap (λ hs. has_space hs c.as_slice-then-is_valid_hint.result.now) c.as_slice.ensures.hints ∙ ap (has_space hints) c.as_slice-then-is_valid_hint.ensures in
    stays_valid hints hint c.has_space.result is c.as_slice.ensures.valid valid
