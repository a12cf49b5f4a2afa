use Rattle.std.proofs.Common.{arith}
use Rattle.xmp_write.proofs.PlacedPieces.{puts_none}
use Rattle.xmp_write.proofs.TextParts.{declaration_put}
use Rattle.xmp_write.proofs.writing.put_declarations.Goals as goal

pub loop-hint-init : goal.loop-hint-init
loop-hint-init c = puts_none c.args.to.now c.args.at (omega arith) (omega arith)

pub loop-hint-preserved : goal.loop-hint-preserved
loop-hint-preserved c =
    declaration_put c.args.hints.now c.loop-hint.hint-index c.hint-item.result c.as_slice.result.now c.as_slice-in-loop-hint.result.now c.loop-hint-test.true c.hint-item.is
    c.as_slice.ensures c.as_slice-in-loop-hint.ensures c.loop-hint.invariant c.put_attribute-after.ensures
