use Rattle.std.proofs.Common.{length, ap, ◌∙◌, arith}
use Rattle.xmp_write.specs.WrittenPackets.{pad_byte}
use Rattle.xmp_write.proofs.PutPackets.{padded}
use Rattle.xmp_write.proofs.writing.pad_into.Goals as goal

pub returns : goal.returns
returns c =
    let long = c.loop-at.auto.to in
    padded c.loop-at.to (length c.args.to.now) long (λ k within. c.loop-at.invariant k (omega (arith, c.loop-at-test.false)) ∙ ap (λ n. pad_byte n k) long)
