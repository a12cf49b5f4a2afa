use Rattle.std.proofs.Common.{◌==◌, ◌+◌, ℕ, drop, get_or, sym, ap, ◌∙◌, arith}
use Rattle.std.specs.List.{list_all}
use Rattle.std.proofs.lemmas.List.{take_rest, drop_more}
use Rattle.irb_iptc.specs.Datasets.{unmarked}
use Rattle.irb_iptc.proofs.entry.entry_at.Goals as goal

pub returns-else-are_zero-clause-is : goal.returns-else-are_zero-clause-is
returns-else-are_zero-clause-is c =
    let block = c.args.block.now in
    let at = c.args.at in
    unmarked (get_or block at 0) (drop (at + 1) block) (drop_more block at 0 (omega arith)) c.if-block-at-eq-MARKER.false
    (ap (list_all (λ (b : ℕ). b == 0)) (sym (take_rest block at)) ∙ sym c.are_zero.ensures ∙ c.if-are_zero.false)
