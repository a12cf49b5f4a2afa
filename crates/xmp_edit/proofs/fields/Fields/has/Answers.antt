use Rattle.std.proofs.Common.{◌∙◌, List, Option, ℕ, ap}
use Rattle.std.specs.Prelude.{is_some}
use Rattle.xmp_values.specs.declared.text.Name.{Name}
use Rattle.xmp_tree.specs.declared.nested.Member.{Member}
use Rattle.xmp_tree.specs.Places.{place_of}
use Rattle.xmp_edit.specs.Slots.{slot_of}
use Rattle.xmp_edit.proofs.SlotLemmas.{slot_there}
use Rattle.xmp_edit.proofs.fields.Fields.has.Goals as goal

pub returns : goal.returns
returns c =
    let ss = c.self.inside.slots.list in
    let name = c.args.name.now in
    c.contains_key.ensures
    ∙ ap (λ (o : Option ℕ). is_some o) (c.self.invariant.1 c.in_ok-key.key)
    ∙ ap (λ (n : Name). is_some (slot_of n ss)) c.in_ok-key.ensures
    ∙ slot_there name ss
    ∙ ap (λ (ms : List Member). is_some (place_of name ms)) c.self.view_is
