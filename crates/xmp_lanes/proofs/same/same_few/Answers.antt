use Rattle.std.proofs.Common.{◌≡◌, ◌+◌, ap, ◌∙◌, arith}
use Rattle.xmp_lanes.proofs.LoadRuns.{nothing_after}
use Rattle.xmp_lanes.proofs.same.same_few.Goals as goal

pub returns : goal.returns
returns c =
    let at = c.loop-at.at in
    let end : at ≡ c.min-len.result = omega (arith, c.loop-at-test.false, c.loop-at.auto.at-end, c.requires.a, c.requires.b, c.min-len.ensures) in
    let after = nothing_after c.args.a.now c.args.b.now at (end ∙ c.min-len.ensures) in
    c.loop-at.invariant ∙ ap (λ n. at + n) after ∙ omega (arith, end)
