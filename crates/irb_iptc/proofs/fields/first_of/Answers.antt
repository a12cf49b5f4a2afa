use Rattle.std.proofs.Common.{◌<◌, length, Some, None, sym, ◌∙◌, arith}
use Rattle.irb_iptc.proofs.Values.{first_step}
use Rattle.irb_iptc.proofs.fields.first_of.Goals as goal

pub returns-in-Some : goal.returns-in-Some
returns-in-Some c =
    let fs = c.args.datasets.now in
    let below : c.loop-i.i < length fs = omega arith in
    sym (sym c.loop-i.invariant ∙ first_step c.args.number fs c.loop-i.i (Some c.in-Some.bytes.now) below c.in-Some.ensures)

pub loop-i-preserved : goal.loop-i-preserved
loop-i-preserved c =
    let fs = c.args.datasets.now in
    let below : c.loop-i.i < length fs = omega arith in
    sym (first_step c.args.number fs c.loop-i.i None below c.in_default.ensures) ∙ c.loop-i.invariant
