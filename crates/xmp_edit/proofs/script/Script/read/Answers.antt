use Rattle.std.proofs.Common.{◌∙◌, sym, subst}
use Rattle.xmp_values.specs.Stops.{Gives, place_of}
use Rattle.xmp_edit.proofs.Utf8Scripts.{script_text, script_bytes}
use Rattle.xmp_edit.proofs.script.Script.read.Goals as goal

pub returns-in-Ok : goal.returns-in-Ok
returns-in-Ok c = subst (Gives place_of c.read_text.result) (sym (script_text c.args.hints.now c.args.bytes.now c.in-Ok.ensures.cases.1)) c.read_text.ensures

pub returns-in-Err : goal.returns-in-Err
returns-in-Err c = script_bytes c.args.hints.now c.args.bytes.now c.valid_up_to.result c.in-Err.ensures.cases.0 (c.valid_up_to.ensures ∙ c.in-Err.ensures.valid_len)
