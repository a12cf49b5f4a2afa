use Rattle.std.proofs.Common.{◌∙◌, sym, ap, subst}
use Rattle.xmp_tree.specs.Wf.{name_of}
use Rattle.xmp_edit.specs.Slots.{HasPlaces}
use Rattle.xmp_edit.proofs.SlotLemmas.{placed_more}
use Rattle.xmp_edit.proofs.slots.pushed.Goals as goal

pub returns-clause-placed : goal.returns-clause-placed
returns-clause-placed c =
    subst (HasPlaces c.in_ok-places.places) (sym c.in_ok-push.ensures.ok)
    (placed_more c.args.slots.list c.args.slots.places c.requires.placed c.args.key c.of.result c.len.result c.in_ok-places.places (c.requires.keyed ∙ ap name_of (sym c.of.ensures)) c.len.ensures c.in_ok-places.ensures)
