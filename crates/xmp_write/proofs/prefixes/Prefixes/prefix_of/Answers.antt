use Rattle.std.proofs.Common.{[], Some, None, sym, ap, ◌∙◌}
use Rattle.std.specs.Prelude.{unwrap_or}
use Rattle.std.specs.Option.{option_copied}
use Rattle.xmp_values.specs.Texts.{place_in}
use Rattle.xmp_write.specs.Prefixes.{written_prefix}
use Rattle.xmp_write.proofs.PlaceMaps.{prefix_at, written_prefix-place}
use Rattle.xmp_write.proofs.prefixes.Prefixes.prefix_of.Goals as goal

pub returns-in-Some-place_of : goal.returns-in-Some-place_of
returns-in-Some-place_of c =
    let space = c.args.space.now in
    let list = c.self.inside.list in
    let place = Some c.in-Some-place_of.place in
    let free = sym c.fixed_prefix.ensures ∙ ap option_copied c.in_default.is in
    let is = sym c.in-Some-place_of.is ∙ c.place_of.ensures ∙ ap (λ spaces. place_in spaces space) c.self.invariant in
    c.prefix_at.ensures ∙ ap (λ list. unwrap_or (prefix_at list place) []) (sym c.self.view_is)
    ∙ sym (written_prefix-place space list place free is) ∙ ap (λ list. written_prefix list space) c.self.view_is

pub returns-in-None : goal.returns-in-None
returns-in-None c =
    let space = c.args.space.now in
    let list = c.self.inside.list in
    let free = sym c.fixed_prefix.ensures ∙ ap option_copied c.in_default.is in
    let is = sym c.in-None.is ∙ c.place_of.ensures ∙ ap (λ spaces. place_in spaces space) c.self.invariant in
    sym (written_prefix-place space list None free is) ∙ ap (λ list. written_prefix list space) c.self.view_is
