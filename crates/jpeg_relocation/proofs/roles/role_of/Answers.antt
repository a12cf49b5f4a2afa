use Rattle.std.proofs.Common.{ap, ◌∙◌, sym, Some}
use Rattle.jpeg_relocation.proofs.Steps.{portion_kept, portion_joined}
use Rattle.jpeg_relocation.proofs.roles.role_of.Goals as goal

pub returns-else-is_at : goal.returns-else-is_at
returns-else-is_at c = portion_kept c.args.joined.now c.args.regions.now c.args.i c.args.portion c.payload.result c.requires.next
    (c.kind.ensures ∙ ap Some c.in-Portion.is) c.payload.ensures (sym c.is_at.ensures ∙ c.if-is_at.false)

pub returns-then-is_at : goal.returns-then-is_at
returns-then-is_at c = portion_joined c.args.joined.now c.args.regions.now c.args.i c.args.portion c.payload.result c.requires.next
    (c.kind.ensures ∙ ap Some c.in-Portion.is) c.payload.ensures (sym c.is_at.ensures ∙ c.if-is_at.true)
