use Rattle.std.proofs.Common.{◌++◌, ◌∷◌, [], ◌∙◌, false, Option, Some, Ok, sym, ap}
use Rattle.xmp_values.specs.declared.text.Name.{Name}
use Rattle.xmp_tree.specs.declared.nested.Value.{Value}
use Rattle.xmp_tree.specs.Parts.{member}
use Rattle.xmp_edit.specs.Edits.{ok_map, with_member}
use Rattle.xmp_edit.specs.Slots.{present}
use Rattle.xmp_edit.proofs.SlotLemmas.{present-push}
use Rattle.xmp_edit.proofs.slots.slot_made.Goals as goal

pub returns-in_ok-pushed-in-Some-clause-gives : goal.returns-in_ok-pushed-in-Some-clause-gives
returns-in_ok-pushed-in-Some-clause-gives c =
    let ss = c.args.slots.list in
    let v = c.in-Some.value in
    ap (ok_map (with_member false c.args.name.now (present ss))) (c.in_ok-value.ensures ∙ ap (λ (o : Option Value). Ok o) c.in-Some.is)
    ∙ ap Ok (ap (λ (n : Name). present ss ++ member n v ∷ []) (sym c.in_ok-name-in-Some.ensures)
    ∙ sym (ap present c.in_ok-pushed-in-Some.ensures.list ∙ present-push ss (Some (member c.in_ok-name-in-Some.name v))))
