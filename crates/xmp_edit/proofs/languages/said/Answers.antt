use Rattle.std.proofs.Common.{◌≡◌, ◌∙◌, ℕ, Option, Some, None, sym, ap, subst}
use Rattle.xmp_values.specs.Stops.{Gives, rule_of}
use Rattle.xmp_tree.specs.Places.{tag_place}
use Rattle.xmp_edit.specs.Actions.{said}
use Rattle.xmp_edit.specs.Languages.{lower, spoken_items}
use Rattle.xmp_edit.proofs.LanguageLemmas.{languages_at}
use Rattle.xmp_edit.proofs.languages.said.Goals as goal

pub returns-in-Some-clause-gives : goal.returns-in-Some-clause-gives
returns-in-Some-clause-gives c =
    let tag = c.args.tag.now in
    let vs = c.args.spoken.items in
    let key_at = sym (languages_at vs c.args.spoken.places c.requires.known tag c.in_ok-key.key (c.in_ok-key.ensures ∙ ap (λ bs. lower bs) c.bytes.ensures)) in
    let at : tag_place tag vs ≡ Some c.in-Some.at = key_at ∙ sym c.get.ensures.value ∙ sym c.copied.ensures ∙ c.in-Some.is in
    subst (λ (o : Option ℕ). Gives rule_of (spoken_items c.replaced.result) (said tag c.args.text.now vs o)) (sym at) c.replaced.ensures.gives

pub returns-clause-gives : goal.returns-clause-gives
returns-clause-gives c =
    let tag = c.args.tag.now in
    let vs = c.args.spoken.items in
    let key_at = sym (languages_at vs c.args.spoken.places c.requires.known tag c.in_ok-key.key (c.in_ok-key.ensures ∙ ap (λ bs. lower bs) c.bytes.ensures)) in
    let at : tag_place tag vs ≡ None = key_at ∙ sym c.get.ensures.value ∙ sym c.copied.ensures ∙ c.in-None.is in
    subst (λ (o : Option ℕ). Gives rule_of (spoken_items c.one_more.result) (said tag c.args.text.now vs o)) (sym at) c.one_more.ensures.gives
