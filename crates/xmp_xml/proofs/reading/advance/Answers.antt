use Rattle.std.proofs.Common.{sym, subst}
use Rattle.std.specs.Str.{chars}
use Rattle.std.proofs.lemmas.Result.{err_from_is_err_and}
use Rattle.xmp_values.specs.Stops.{Stops, place_of}
use Rattle.xmp_values.specs.declared.stops.PlaceStop.{PlaceStop}
use Rattle.xmp_xml.specs.Document.{Halts}
use Rattle.xmp_xml.proofs.Advancing.{run_fits, advanced, halted, no_token, some_chars}
use Rattle.xmp_xml.proofs.reading.advance.Goals as goal

pub token_step-requires : goal.token_step-requires
token_step-requires c = run_fits c.mode_of-mode.result c.in-Ok.token c.args.rest.now c.in-Ok.after.now c.args.at c.utf8.rest c.in-Ok.ensures.stands c.in-Ok.ensures.spelled c.requires.fits

pub returns-in_ok-token_step-in-Ok-clause-further : goal.returns-in_ok-token_step-in-Ok-clause-further
returns-in_ok-token_step-in-Ok-clause-further c =
    advanced c.args.builder.now c.args.at c.mode_of-mode.result c.in-Ok.token c.args.rest.now c.in-Ok.after.now c.mode_of-mode.ensures c.in-Ok.ensures.stands c.in-Ok.ensures.some.0 c.in-Ok.ensures.spelled c.token_step.new.builder c.in_ok-token_step-in-Ok.ensures

pub returns-in_err-token_step-in-Ok-clause-stops : goal.returns-in_err-token_step-in-Ok-clause-stops
returns-in_err-token_step-in-Ok-clause-stops c =
    let p = err_from_is_err_and c.from_residual.result c.from_residual.ensures.1 in
    rw (p.1, p.2) (halted c.args.builder.now c.args.at c.mode_of-mode.result c.in-Ok.token c.args.rest.now c.in-Ok.after.now c.mode_of-mode.ensures c.in-Ok.ensures.stands c.in-Ok.ensures.some.0 c.in-Ok.ensures.spelled c.in_err-token_step-in-Ok.field-0.0 c.in_err-token_step-in-Ok.ensures)

pub returns-in-Err-clause-stops : goal.returns-in-Err-clause-stops
returns-in-Err-clause-stops c =
    subst (λ (e : PlaceStop). Stops place_of e (λ f. Halts c.args.builder.now c.args.at (chars c.args.rest.now) f.0 f.1)) (sym c.at.ensures)
    (no_token c.args.builder.now c.args.at c.mode_of-mode.result (chars c.args.rest.now) c.in-Err.stop c.mode_of-mode.ensures (some_chars c.args.rest.now c.utf8.rest c.requires.some) c.in-Err.ensures.fault)
