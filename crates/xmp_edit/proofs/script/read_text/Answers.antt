use Rattle.std.proofs.Common.{◌≡◌, Ok, Err, subst}
use Rattle.std.specs.Prelude.{IfSome}
use Rattle.xmp_values.specs.Stops.{place_of}
use Rattle.xmp_edit.specs.Lines.{lines_of}
use Rattle.xmp_edit.specs.ScriptOf.{lines_read, beginning}
use Rattle.xmp_edit.proofs.Utf8Scripts.{refused, accepted}
use Rattle.xmp_edit.proofs.script.read_text.Goals as goal

pub returns-in-Err : goal.returns-in-Err
returns-in-Err c =
    refused c.args.hints.now (place_of c.in-Err.stop) (lines_read (lines_of c.args.bytes.now) 1 (beginning c.args.hints.now))
    (subst (λ r. IfSome (place_of c.in-Err.stop) (λ f. lines_read (lines_of c.args.bytes.now) 1 r ≡ Err f)) c.in_ok-begun.ensures c.in-Err.ensures)

pub returns-in_ok-finished-in-Ok : goal.returns-in_ok-finished-in-Ok
returns-in_ok-finished-in-Ok c =
    accepted c.args.hints.now c.in-Ok.reading (lines_read (lines_of c.args.bytes.now) 1 (beginning c.args.hints.now)) c.in_ok-finished-in-Ok.field-0
    (subst (λ r. lines_read (lines_of c.args.bytes.now) 1 r ≡ Ok c.in-Ok.reading) c.in_ok-begun.ensures c.in-Ok.ensures) c.in_ok-finished-in-Ok.ensures
