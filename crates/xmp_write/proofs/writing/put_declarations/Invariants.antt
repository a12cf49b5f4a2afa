use Rattle.std.proofs.Common.{take}
use Rattle.xmp_write.specs.Text.{declared_text}
use Rattle.xmp_write.specs.Placing.{Puts}
use Rattle.xmp_write.proofs.writing.put_declarations.Given as goal

abbrev pub invariant-loop-hint : goal.invariant-loop-hint
invariant-loop-hint l = Puts l.fn.to l.to l.at l.after (declared_text (take l.hint-index l.hints))
