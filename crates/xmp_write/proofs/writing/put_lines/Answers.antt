use Rattle.std.proofs.Common.{arith}
use Rattle.xmp_write.proofs.PlacedPieces.{puts_none}
use Rattle.xmp_write.proofs.TextParts.{line_put}
use Rattle.xmp_write.proofs.writing.put_lines.Goals as goal

pub loop-member-init : goal.loop-member-init
loop-member-init c = puts_none c.args.to.now c.args.at (omega arith) (omega arith)

pub loop-member-preserved : goal.loop-member-preserved
loop-member-preserved c =
    line_put c.args.prefixes.now c.args.props.now c.loop-member.member-index c.member-item.result c.loop-member-test.true c.member-item.is c.loop-member.invariant
    c.put_member-after.ensures c.put-after.ensures
