use Rattle.std.proofs.Common.{◌≡◌, ◌&&◌, ◌∙◌, List, None, Some, sym, subst}
use Rattle.std.specs.Prelude.{slice_get, Result}
use Rattle.xmp_values.specs.declared.text.Name.{Name}
use Rattle.xmp_values.specs.declared.rules.Rule.{Rule}
use Rattle.xmp_values.specs.Stops.{Gives, rule_of}
use Rattle.xmp_tree.specs.declared.nested.Member.{Member}
use Rattle.xmp_paths.specs.Paths.{is_end}
use Rattle.xmp_edit.specs.Actions.{change_of, makes}
use Rattle.xmp_edit.specs.Edits.{at_place}
use Rattle.xmp_edit.specs.Slots.{slot_of, slot_changed, presented}
use Rattle.xmp_edit.proofs.SlotLemmas.{changed_present, presented_there, made_there, refused_there}
use Rattle.xmp_edit.proofs.fields.in_slots.Goals as goal

pub returns-in-Some-clause-gives : goal.returns-in-Some-clause-gives
returns-in-Some-clause-gives c =
    let ss = c.args.slots.list in
    let change = at_place c.args.rest.now (change_of c.args.action.now) (makes c.args.action.now) in
    let key_at = sym (c.requires.placed c.in_ok-key.key) ∙ sym c.get.ensures.value ∙ sym c.copied.ensures ∙ c.in-Some.is in
    let at = subst (λ (n : Name). slot_of n ss ≡ Some c.in-Some.at) c.in_ok-key.ensures key_at in
    subst (λ (r : Result (List Member) Rule). Gives rule_of (presented c.slot_changed.result) r)
    (sym (changed_present change (makes c.args.action.now && is_end c.args.rest.now) c.args.name.now ss c.in-Some.at at))
    (presented_there c.slot_changed.result (slot_changed change ss c.in-Some.at (slice_get ss c.in-Some.at)) c.slot_changed.ensures.gives)

pub returns-then-makes_there-clause-gives : goal.returns-then-makes_there-clause-gives
returns-then-makes_there-clause-gives c =
    let ss = c.args.slots.list in
    let action = c.args.action.now in
    let key_at = sym (c.requires.placed c.in_ok-key.key) ∙ sym c.get.ensures.value ∙ sym c.copied.ensures ∙ c.in-None.is in
    let at = subst (λ (n : Name). slot_of n ss ≡ None) c.in_ok-key.ensures key_at in
    let made = sym c.makes_there.ensures ∙ c.if-makes_there.true in
    subst (λ (r : Result (List Member) Rule). Gives rule_of (presented c.slot_made.result) r)
    (sym (made_there c.args.name.now ss at (change_of action) (makes action) c.args.rest.now made))
    c.slot_made.ensures.gives

pub returns-clause-gives : goal.returns-clause-gives
returns-clause-gives c =
    let ss = c.args.slots.list in
    let action = c.args.action.now in
    let key_at = sym (c.requires.placed c.in_ok-key.key) ∙ sym c.get.ensures.value ∙ sym c.copied.ensures ∙ c.in-None.is in
    let at = subst (λ (n : Name). slot_of n ss ≡ None) c.in_ok-key.ensures key_at in
    let refused = sym c.makes_there.ensures ∙ c.if-makes_there.false in
    refused_there c.args.name.now ss at (change_of action) (makes action) c.args.rest.now refused
