use Rattle.std.proofs.Common.{sym, subst}
use Rattle.std.specs.Prelude.{All}
use Rattle.std.proofs.lemmas.List.Elements.{All-push}
use Rattle.xmp_edit.specs.Allowed.{IsAllowed, IsWell}
use Rattle.xmp_edit.proofs.reading.Reading.taken.Goals as goal

pub invariant_of-result-in-Made : goal.invariant_of-result-in-Made
invariant_of-result-in-Made c =
    subst (All IsAllowed) (sym c.in_ok-push-in-Made.ensures.ok) (All-push IsAllowed c.self.inside.edits c.in-Made.edit c.self.invariant (subst IsWell c.in-Made.is c.requires))
