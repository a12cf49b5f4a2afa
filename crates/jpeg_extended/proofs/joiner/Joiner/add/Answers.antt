use Rattle.std.proofs.Common.{arith, ◌≡◌, ◌∙◌, List, ◌++◌, map, sym, ap}
use Rattle.jpeg_extended.specs.Joined.{Joining}
use Rattle.jpeg_extended.specs.Portions.{Portion}
use Rattle.jpeg_extended.specs.Heads.{portion_in}
use Rattle.jpeg_extended.proofs.KeptPortions.{add_none, grown, head_len, is_portion, kept_pushed, on_err, portions_more, portions_pushed}
use Rattle.jpeg_extended.proofs.joiner.Joiner.add.Goals as goal

pub returns-in_default-clause-ok : goal.returns-in_default-clause-ok
returns-in_default-clause-ok c = add_none c.self.inside.name c.args.payload.now c.args.self.now (ap (λ (j : Joining). j.name) c.self.view_is) (sym c.in_default.is ∙ c.read.ensures)

pub returns-in_err-push-clause-err : goal.returns-in_err-push-clause-err
returns-in_err-push-clause-err c =
    let same : map (portion_in c.extend_from_slice.new.self.items) c.push.new.self.items ≡ map (portion_in c.self.inside.kept.items) c.self.inside.heads.items =
    (λ i. map (portion_in (c.in_ok-extend_from_slice.ensures.items i)) (c.in_err-push.ensures.items i)) ∙ portions_more c.self.inside.kept.items _ c.self.inside.heads.items c.self.invariant in
    on_err _ (ap (λ (ps : List Portion). let j : Joining = record { name = c.self.inside.name; portions = ps } in j) same ∙ c.self.view_is)

pub invariant_of-self-2 : goal.invariant_of-self-2
invariant_of-self-2 c = kept_pushed c.self.inside.kept.items _ _ c.self.inside.heads.items _ _ c.self.invariant (grown c.self.inside.kept.items _ c.args.payload.now c.in_ok-extend_from_slice.ensures.items) c.in_ok-push.ensures.items (omega (arith, c.len-at.ensures, c.self.inside.kept.ok))
    (head_len c.self.inside.name c.args.payload.now c.in-Some.head c.in-Some.ensures)

pub returns-clause-ok : goal.returns-clause-ok
returns-clause-ok c =
    let got = c.in-Some.ensures in
    let pushed = portions_pushed c.self.inside.kept.items _ _ c.self.inside.heads.items _ _ c.self.invariant (grown c.self.inside.kept.items _ c.args.payload.now c.in_ok-extend_from_slice.ensures.items) c.in_ok-push.ensures.items (omega (arith, c.len-at.ensures, c.self.inside.kept.ok))
    (head_len c.self.inside.name c.args.payload.now c.in-Some.head got) in
    rw (← c.self.view_is) (ap (λ (ps : List Portion). let j : Joining = record { name = c.self.inside.name; portions = ps } in j)
    (pushed ∙ ap (λ (ps : List Portion). map (portion_in c.self.inside.kept.items) c.self.inside.heads.items ++ ps) (sym (is_portion c.self.inside.name c.args.payload.now c.in-Some.head got))))
