use Rattle.std.proofs.Common.{◌≡◌, ◌&&◌, ◌∙◌, false, List, None, Some, sym, ap, subst}
use Rattle.std.specs.Prelude.{slice_get, Result}
use Rattle.xmp_values.specs.declared.text.Name.{Name}
use Rattle.xmp_values.specs.declared.rules.Rule.{Rule}
use Rattle.xmp_values.specs.Stops.{Gives, rule_of}
use Rattle.xmp_tree.specs.declared.nested.Member.{Member}
use Rattle.xmp_paths.specs.declared.step.Step.{Step}
use Rattle.xmp_paths.specs.Paths.{is_end}
use Rattle.xmp_edit.specs.Actions.{change_of, makes}
use Rattle.xmp_edit.specs.Edits.{ok_map, at_place, with_member}
use Rattle.xmp_edit.specs.Slots.{present, slot_of, slot_changed, presented}
use Rattle.xmp_edit.proofs.SlotLemmas.{changed_present, presented_there, made_there, refused_there}
use Rattle.xmp_edit.proofs.slots.in_slots.Goals as goal

pub returns-in-Some-clause-gives : goal.returns-in-Some-clause-gives
returns-in-Some-clause-gives c =
    let ss = c.args.slots.list in
    let change = at_place c.args.path.now.steps (change_of c.args.action.now) (makes c.args.action.now) in
    let key_at = sym (c.requires.placed c.in_ok-key.key) ∙ sym c.get.ensures.value ∙ sym c.copied.ensures ∙ c.in-Some.is in
    let at = subst (λ (n : Name). slot_of n ss ≡ Some c.in-Some.at) (c.in_ok-key.ensures ∙ c.name.ensures) key_at in
    subst (λ (r : Result (List Member) Rule). Gives rule_of (presented c.slot_changed.result) r)
    (sym (changed_present change (makes c.args.action.now && is_end c.args.path.now.steps) c.args.path.now.name ss c.in-Some.at at))
    (presented_there c.slot_changed.result (slot_changed change ss c.in-Some.at (slice_get ss c.in-Some.at)) c.slot_changed.ensures.gives)

pub returns-then-makes_there-clause-gives : goal.returns-then-makes_there-clause-gives
returns-then-makes_there-clause-gives c =
    let ss = c.args.slots.list in
    let action = c.args.action.now in
    let key_at = sym (c.requires.placed c.in_ok-key.key) ∙ sym c.get.ensures.value ∙ sym c.copied.ensures ∙ c.in-None.is in
    let at = subst (λ (n : Name). slot_of n ss ≡ None) (c.in_ok-key.ensures ∙ c.name.ensures) key_at in
    let made = ap (λ (steps : List Step). makes action && is_end steps) (sym c.steps.ensures.steps) ∙ sym c.makes_there.ensures ∙ c.if-makes_there.true in
    subst (λ (r : Result (List Member) Rule). Gives rule_of (presented c.slot_made.result) r)
    (ap (λ (n : Name). ok_map (with_member false n (present ss)) (change_of action None)) c.name-then-makes_there.ensures
    ∙ sym (made_there c.args.path.now.name ss at (change_of action) (makes action) c.args.path.now.steps made))
    c.slot_made.ensures.gives

pub returns-clause-gives : goal.returns-clause-gives
returns-clause-gives c =
    let ss = c.args.slots.list in
    let action = c.args.action.now in
    let key_at = sym (c.requires.placed c.in_ok-key.key) ∙ sym c.get.ensures.value ∙ sym c.copied.ensures ∙ c.in-None.is in
    let at = subst (λ (n : Name). slot_of n ss ≡ None) (c.in_ok-key.ensures ∙ c.name.ensures) key_at in
    let refused = ap (λ (steps : List Step). makes action && is_end steps) (sym c.steps.ensures.steps) ∙ sym c.makes_there.ensures ∙ c.if-makes_there.false in
    refused_there c.args.path.now.name ss at (change_of action) (makes action) c.args.path.now.steps refused
