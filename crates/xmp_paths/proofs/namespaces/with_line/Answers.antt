use Rattle.std.proofs.Common.{◌∙◌, ap, sym, refl}
use Rattle.std.specs.Prelude.{is_some}
use Rattle.xmp_paths.specs.LinePlaces.{place_at}
use Rattle.xmp_paths.proofs.LinePlaces.{placed_again, placed_more}
use Rattle.xmp_paths.proofs.namespaces.with_line.Goals as goal

pub returns-then-contains_key : goal.returns-then-contains_key
returns-then-contains_key c =
    placed_again c.args.lines.now c.args.line.now c.args.places c.requires
    (ap (λ p. is_some (place_at c.args.places p)) (sym c.as_slice-prefix.ensures) ∙ sym c.contains_key.ensures ∙ c.if-contains_key.true)

pub returns : goal.returns
returns c =
    placed_more c.args.lines.now c.args.line.now c.args.places c.requires _ _ c.insert.new.self
    (ap (λ p. is_some (place_at c.args.places p)) (sym c.as_slice-prefix.ensures) ∙ sym c.contains_key.ensures ∙ c.if-contains_key.false)
    (c.in_ok-from_slice.ensures.items ∙ c.as_slice-prefix.ensures) refl c.in_ok-insert.ensures.updates
