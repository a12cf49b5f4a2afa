use Rattle.std.proofs.Common.{◌++◌, ◌∷◌, [], ◌∙◌, false, Option, Some, Ok, sym, ap, subst}
use Rattle.xmp_values.specs.declared.text.Name.{Name}
use Rattle.xmp_tree.specs.declared.nested.Value.{Value}
use Rattle.xmp_tree.specs.Parts.{member}
use Rattle.xmp_tree.proofs.Made.{name-member}
use Rattle.xmp_edit.specs.Edits.{ok_map, with_member}
use Rattle.xmp_edit.specs.Slots.{present, HasPlaces}
use Rattle.xmp_edit.proofs.SlotLemmas.{present-push, placed_more}
use Rattle.xmp_edit.proofs.fields.slot_made.Goals as goal

pub returns-in_ok-push-in-Some-clause-gives : goal.returns-in_ok-push-in-Some-clause-gives
returns-in_ok-push-in-Some-clause-gives c =
    let ss = c.args.slots.list in
    let v = c.in-Some.value in
    ap (ok_map (with_member false c.args.name.now (present ss))) (c.in_ok-value.ensures ∙ ap (λ (o : Option Value). Ok o) c.in-Some.is)
    ∙ ap Ok (ap (λ (n : Name). present ss ++ member n v ∷ []) (sym c.in_ok-name-in-Some.ensures)
    ∙ sym (ap present c.in_ok-push-in-Some.ensures.ok ∙ present-push ss (Some (member c.in_ok-name-in-Some.name v))))

pub returns-in_ok-push-in-Some-clause-placed : goal.returns-in_ok-push-in-Some-clause-placed
returns-in_ok-push-in-Some-clause-placed c =
    let n = c.in_ok-name-in-Some.name in
    let v = c.in-Some.value in
    let places = c.in_ok-places-in-Some.places in
    subst (HasPlaces places) (sym c.in_ok-push-in-Some.ensures.ok)
    (placed_more c.args.slots.list c.args.slots.places c.requires.placed c.args.key (member n v) c.len.result places
    (c.requires.keyed ∙ sym c.in_ok-name-in-Some.ensures ∙ sym (name-member n v)) c.len.ensures c.in_ok-places-in-Some.ensures)
