use Rattle.std.proofs.Common.{take}
use Rattle.xmp_write.specs.Text.{lines_text}
use Rattle.xmp_write.specs.Placing.{Puts}
use Rattle.xmp_write.proofs.writing.put_lines.Given as goal

abbrev pub invariant-loop-member : goal.invariant-loop-member
invariant-loop-member l = Puts l.fn.to l.to l.at l.after (lines_text l.prefixes (take l.member-index l.props))
