use Rattle.std.proofs.Common.{◌≡◌, ap, sym, subst, ◌∙◌, refl, true, false, length, arith}
use Rattle.std.specs.Prelude.{not, is_some}
use Rattle.std.specs.Option.{unwrap_or}
use Rattle.xmp_values.specs.Texts.{text_in, texts_of, HasPlaces}
use Rattle.xmp_values.proofs.TextPlaces.{places_more, is_there, with_there, with_new, found, missed, restored}
use Rattle.xmp_values.proofs.text_sets.TextSet.insert.Goals as goal

pub returns-then-place-next-clause-is_new : goal.returns-then-place-next-clause-is_new
returns-then-place-next-clause-is_new c =
    let len : c.len-next.result ≡ length c.self.inside.texts.items = c.len-next.ensures ∙ c.self.inside.texts.ok.0 in
    let place = found c.args.text c.self.inside.places c.place_for.new.places c.self.inside.texts.items c.self.invariant c.in_ok-place.place (c.in_ok-place.ensures.place ∙ ap (unwrap_or (text_in c.self.inside.places c.args.text.now)) len) c.in_ok-place.ensures.ok (omega (arith, len, c.if-place-next.true)) in
    ap not (is_there c.args.text.now c.self.inside.places c.self.inside.texts.items c.args.self.now c.self.view_is c.self.invariant true (ap (λ o. is_some o) (sym place)))

pub returns-then-place-next-clause-ok : goal.returns-then-place-next-clause-ok
returns-then-place-next-clause-ok c =
    let len : c.len-next.result ≡ length c.self.inside.texts.items = c.len-next.ensures ∙ c.self.inside.texts.ok.0 in
    let place = found c.args.text c.self.inside.places c.place_for.new.places c.self.inside.texts.items c.self.invariant c.in_ok-place.place (c.in_ok-place.ensures.place ∙ ap (unwrap_or (text_in c.self.inside.places c.args.text.now)) len) c.in_ok-place.ensures.ok (omega (arith, len, c.if-place-next.true)) in
    c.self.view_is ∙ with_there c.args.text.now c.self.inside.places c.self.inside.texts.items c.args.self.now c.self.view_is c.self.invariant true (ap (λ o. is_some o) (sym place)) refl

pub invariant_of-self-in-Ok : goal.invariant_of-self-in-Ok
invariant_of-self-in-Ok c =
    let len : c.len-next.result ≡ length c.self.inside.texts.items = c.len-next.ensures ∙ c.self.inside.texts.ok.0 in
    let miss = missed c.args.text c.self.inside.places c.place_for.new.places c.self.inside.texts.items c.self.invariant c.in_ok-place.place (c.in_ok-place.ensures.place ∙ ap (unwrap_or (text_in c.self.inside.places c.args.text.now)) len) c.in_ok-place.ensures.ok (λ below. omega (arith, len, below, c.if-place-next.false)) in
    places_more c.args.text c.self.inside.texts.items c.push.new.self.items c.in_ok-place.place c.self.inside.places c.place_for.new.places c.self.invariant miss.1 miss.0
    c.in_ok-place.ensures.ok c.in-Ok.ensures.items

pub invariant_of-self-in_default : goal.invariant_of-self-in_default
invariant_of-self-in_default c =
    let len : c.len-next.result ≡ length c.self.inside.texts.items = c.len-next.ensures ∙ c.self.inside.texts.ok.0 in
    let kept = restored c.args.text c.self.inside.places c.place_for.new.places c.self.inside.texts.items c.self.invariant c.in_ok-place.place (c.in_ok-place.ensures.place ∙ ap (unwrap_or (text_in c.self.inside.places c.args.text.now)) len) c.in_ok-place.ensures.ok c.remove.new.self (λ below. omega (arith, len, below, c.if-place-next.false)) c.remove.ensures.updates in
    subst (λ keys. HasPlaces c.remove.new.self (texts_of keys)) (sym c.in_default.ensures.items) kept

pub returns-clause-is_new : goal.returns-clause-is_new
returns-clause-is_new c =
    let len : c.len-next.result ≡ length c.self.inside.texts.items = c.len-next.ensures ∙ c.self.inside.texts.ok.0 in
    let miss = missed c.args.text c.self.inside.places c.place_for.new.places c.self.inside.texts.items c.self.invariant c.in_ok-place.place (c.in_ok-place.ensures.place ∙ ap (unwrap_or (text_in c.self.inside.places c.args.text.now)) len) c.in_ok-place.ensures.ok (λ below. omega (arith, len, below, c.if-place-next.false)) in
    ap not (is_there c.args.text.now c.self.inside.places c.self.inside.texts.items c.args.self.now c.self.view_is c.self.invariant false (ap (λ o. is_some o) (sym miss.0)))

pub returns-clause-ok : goal.returns-clause-ok
returns-clause-ok c =
    let len : c.len-next.result ≡ length c.self.inside.texts.items = c.len-next.ensures ∙ c.self.inside.texts.ok.0 in
    let miss = missed c.args.text c.self.inside.places c.place_for.new.places c.self.inside.texts.items c.self.invariant c.in_ok-place.place (c.in_ok-place.ensures.place ∙ ap (unwrap_or (text_in c.self.inside.places c.args.text.now)) len) c.in_ok-place.ensures.ok (λ below. omega (arith, len, below, c.if-place-next.false)) in
    with_new c.args.text.now c.self.inside.places c.self.inside.texts.items c.args.self.now c.self.view_is c.self.invariant false (ap (λ o. is_some o) (sym miss.0)) refl c.args.text c.push.new.self.items refl c.in-Ok.ensures.items
