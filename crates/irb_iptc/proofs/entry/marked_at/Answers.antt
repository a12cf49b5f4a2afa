use Rattle.std.proofs.Common.{ℕ, ◌+◌, ◌-◌, ◌≤◌, List, length, take, get_or, refl, subst, ap, ◌∙◌, arith}
use Rattle.std.proofs.lemmas.List.{take_rest, length-drop, get_or-drop}
use Rattle.std.proofs.lemmas.Result.{err_from_is_err_and}
use Rattle.irb_iptc.specs.Datasets.{Counts}
use Rattle.irb_iptc.specs.Entries.{NoCount}
use Rattle.irb_iptc.proofs.Marked.{rest_of_rest, head_out, no_count, bytes_out, entry_found}
use Rattle.irb_iptc.proofs.entry.marked_at.Goals as goal

pub returns-then-rest-lt4-clause-is : goal.returns-then-rest-lt4-clause-is
returns-then-rest-lt4-clause-is c =
    let block = c.args.block.now in
    head_out block c.args.at c.requires.within c.requires.marked (omega (arith, ap length (take_rest block (c.args.at + 1)), length-drop (c.args.at + 1) block))

pub returns-in_err-taken-clause-is : goal.returns-in_err-taken-clause-is
returns-in_err-taken-clause-is c =
    let block = c.args.block.now in
    let long : 4 ≤ length block - (c.args.at + 1) = omega (arith, ap length (take_rest block (c.args.at + 1)), length-drop (c.args.at + 1) block) in
    let p = err_from_is_err_and c.from_residual.result c.from_residual.ensures.1 in
    rw (p.1, p.2) (no_count block c.args.at c.requires.within c.requires.marked long c.in_err-taken.field-0.0
    (subst (λ (l : List ℕ). NoCount l c.in_err-taken.field-0.0) (rest_of_rest 2 (c.args.at + 1) block) c.in_err-taken.ensures.is))

pub returns-then-block-start-clause-is : goal.returns-then-block-start-clause-is
returns-then-block-start-clause-is c =
    let block = c.args.block.now in
    let long : 4 ≤ length block - (c.args.at + 1) = omega (arith, ap length (take_rest block (c.args.at + 1)), length-drop (c.args.at + 1) block) in
    let rest = rest_of_rest 2 (c.args.at + 1) block in
    bytes_out block c.args.at c.requires.within c.requires.marked long c.in_ok-taken.taken c.in_ok-taken.len
    (subst (λ (l : List ℕ). c.in_ok-taken.taken ≤ length l) rest c.in_ok-taken.ensures.most)
    (subst (λ (l : List ℕ). Counts (take c.in_ok-taken.taken l) c.in_ok-taken.len) rest c.in_ok-taken.ensures.is) c.if-block-start.true

pub returns-clause-is : goal.returns-clause-is
returns-clause-is c =
    let block = c.args.block.now in
    let long : 4 ≤ length block - (c.args.at + 1) = omega (arith, ap length (take_rest block (c.args.at + 1)), length-drop (c.args.at + 1) block) in
    let rest = rest_of_rest 2 (c.args.at + 1) block in
    entry_found block c.args.at c.requires.within c.requires.marked long c.in_ok-taken.taken c.in_ok-taken.len
    (subst (λ (l : List ℕ). c.in_ok-taken.taken ≤ length l) rest c.in_ok-taken.ensures.most)
    (subst (λ (l : List ℕ). Counts (take c.in_ok-taken.taken l) c.in_ok-taken.len) rest c.in_ok-taken.ensures.is) c.if-block-start.false _
    refl refl (ap (λ (l : List ℕ). get_or l 0 0) (take_rest block (c.args.at + 1)) ∙ get_or-drop (c.args.at + 1) block 0 0 ∙ ap (λ (k : ℕ). get_or block k 0) (omega arith))
    (ap (λ (l : List ℕ). get_or l 1 0) (take_rest block (c.args.at + 1)) ∙ get_or-drop (c.args.at + 1) block 1 0)
