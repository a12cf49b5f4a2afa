use Rattle.std.proofs.Common.{◌∷◌, [], ◌++◌, List, ℕ, ap, sym, ◌∙◌, arith}
use Rattle.std.proofs.lemmas.List.{length-append}
use Rattle.tiff_dirs.specs.Directories.{chained}
use Rattle.tiff_dirs.specs.Walking.{capped}
use Rattle.tiff_dirs.proofs.Capped.{capped_none, capped_few, capped_full, chained_more, chained_none}
use Rattle.tiff_dirs.proofs.children.reach_next.Goals as goal

pub returns-then-next-eq0-clause-reached : goal.returns-then-next-eq0-clause-reached
returns-then-next-eq0-clause-reached c =
    let old = c.args.reached.now.items in
    capped_none old c.requires ∙ ap (λ (t : List ℕ). capped (old ++ t)) (chained_none c.args.next (omega arith))

pub returns-then-len-ge-MOST_REACHED-clause-reached : goal.returns-then-len-ge-MOST_REACHED-clause-reached
returns-then-len-ge-MOST_REACHED-clause-reached c = capped_full c.args.reached.now.items (chained c.args.next) c.requires (omega arith)

pub returns-in-Ok-clause-reached : goal.returns-in-Ok-clause-reached
returns-in-Ok-clause-reached c =
    let old = c.args.reached.now.items in
    let next = c.args.next in
    let size = length-append old (next ∷ []) in
    c.in-Ok.ensures.items ∙ sym (capped_few (old ++ next ∷ []) (omega (arith, size)))
    ∙ ap (λ (t : List ℕ). capped (old ++ t)) (chained_more next (λ z. c.if-next-eq0.false z))
