use Rattle.std.proofs.Common.{◌≡◌, ℕ, ◌-◌, drop, subst, arith}
use Rattle.irb_iptc.specs.Resources.{IsCut}
use Rattle.irb_iptc.specs.Reading.{IsFound}
use Rattle.irb_iptc.proofs.Runs.{underway_more, broken_here}
use Rattle.irb_iptc.proofs.list.Resources.of.Goals as goal

pub returns-in-Short : goal.returns-in-Short
returns-in-Short c =
    let at = c.next.at in
    let same : at ≡ at - 0 = omega arith in
    broken_here c.args.bytes.now 0 c.next.blocks.items at c.next.invariant (subst (λ (n : ℕ). IsCut (drop n c.args.bytes.now)) same c.in-Short.ensures.is)

pub next-preserved : goal.next-preserved
next-preserved c =
    let at = c.next.at in
    let same : at ≡ at - 0 = omega arith in
    rw (c.in-Ok.ensures.items, c.end-at.ensures) (underway_more c.args.bytes.now 0 c.next.blocks.items at c.next.invariant c.in-Found.block
    (subst (λ (n : ℕ). IsFound (drop n c.args.bytes.now) at c.in-Found.block) same c.in-Found.ensures.is))
