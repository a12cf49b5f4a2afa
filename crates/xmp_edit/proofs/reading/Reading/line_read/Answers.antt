use Rattle.std.proofs.Common.{sym, subst}
use Rattle.std.specs.Prelude.{IfSome}
use Rattle.xmp_edit.specs.Allowed.{IsFormed}
use Rattle.xmp_edit.proofs.Judged.{line_formed}
use Rattle.xmp_edit.proofs.reading.Reading.line_read.Goals as goal

pub given-requires : goal.given-requires
given-requires c = subst (λ o. IfSome o IsFormed) (sym c.in_ok-line.ensures) (line_formed c.without_cr.result.now)
