use Rattle.std.proofs.Common.{◌≡◌, ◌∙◌, List, Option, Some, Ok, sym, ap, subst}
use Rattle.std.specs.Prelude.{slice_get, option_map}
use Rattle.xmp_tree.specs.declared.nested.Member.{Member}
use Rattle.xmp_tree.specs.Parts.{member}
use Rattle.xmp_tree.specs.Wf.{name_of, value_of}
use Rattle.xmp_paths.specs.declared.step.Step.{Step}
use Rattle.xmp_edit.specs.Actions.{change_of, makes}
use Rattle.xmp_edit.specs.Edits.{ok_map, at_place}
use Rattle.xmp_edit.specs.Slots.{name_at, HasPlaces}
use Rattle.xmp_edit.proofs.SlotLemmas.{slot_had, slot_named, emptied_is, filled_is, slot_given, placed_given, placed_out}
use Rattle.xmp_edit.proofs.slots.slot_changed.Goals as goal

pub returns-in-Some-2-clause-gives : goal.returns-in-Some-2-clause-gives
returns-in-Some-2-clause-gives c =
    let ss = c.args.slots.list in
    let m = c.in-Some.property in
    let change = at_place c.args.path.now.steps (change_of c.args.action.now) (makes c.args.action.now) in
    let here = slot_had (slice_get ss c.args.at) m (sym c.in-Some.is ∙ c.emptied.ensures.member) in
    let gave : ok_map (option_map (member (name_of m))) (change (Some (value_of m))) ≡ Ok (Some c.in-Some-2.property) =
    ap (λ (steps : List Step). ok_map (option_map (member (name_of m))) (at_place steps (change_of c.args.action.now) (makes c.args.action.now) (Some (value_of m)))) (sym c.steps.ensures.steps)
    ∙ c.in_ok-property-in-Some.ensures ∙ ap (λ (o : Option Member). Ok o) c.in-Some-2.is in
    slot_given change ss c.args.at m (Some c.in-Some-2.property) here gave
    ∙ sym (ap Ok (filled_is ss c.emptied.new.list c.filled.new.list c.args.at m (Some c.in-Some-2.property) here c.emptied.ensures.rest c.filled.ensures))

pub returns-in-Some-2-clause-placed : goal.returns-in-Some-2-clause-placed
returns-in-Some-2-clause-placed c =
    let ss = c.args.slots.list in
    let m = c.in-Some.property in
    let change = at_place c.args.path.now.steps (change_of c.args.action.now) (makes c.args.action.now) in
    let here = slot_had (slice_get ss c.args.at) m (sym c.in-Some.is ∙ c.emptied.ensures.member) in
    let gave : ok_map (option_map (member (name_of m))) (change (Some (value_of m))) ≡ Ok (Some c.in-Some-2.property) =
    ap (λ (steps : List Step). ok_map (option_map (member (name_of m))) (at_place steps (change_of c.args.action.now) (makes c.args.action.now) (Some (value_of m)))) (sym c.steps.ensures.steps)
    ∙ c.in_ok-property-in-Some.ensures ∙ ap (λ (o : Option Member). Ok o) c.in-Some-2.is in
    subst (HasPlaces c.args.slots.places)
    (sym (filled_is ss c.emptied.new.list c.filled.new.list c.args.at m (Some c.in-Some-2.property) here c.emptied.ensures.rest c.filled.ensures))
    (placed_given ss c.args.slots.places c.requires.placed c.args.at m c.in-Some-2.property (change (Some (value_of m))) here gave)

pub returns-clause-placed : goal.returns-clause-placed
returns-clause-placed c =
    let ss = c.args.slots.list in
    let m = c.in-Some.property in
    let here = slot_had (slice_get ss c.args.at) m (sym c.in-Some.is ∙ c.emptied.ensures.member) in
    subst (HasPlaces c.remove.new.self) (sym (emptied_is ss c.emptied.new.list c.args.at m here c.emptied.ensures.rest))
    (placed_out ss c.args.slots.places c.requires.placed c.args.key.now c.args.at m c.remove.new.self c.requires.here here
    (slot_named (name_at c.args.key.now) ss c.args.at m c.requires.here here) c.requires.apart c.remove.ensures.updates)
