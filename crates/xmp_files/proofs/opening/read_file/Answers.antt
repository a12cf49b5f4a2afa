use Rattle.std.proofs.Common.{◌∙◌, sym, ap, subst, Err}
use Rattle.std.specs.Option.{option_copied}
use Rattle.xmp_files.specs.Openings.{OpenAnswer}
use Rattle.xmp_values.specs.declared.stops.FaultStop.{FaultStop}
use Rattle.xmp_files.proofs.Opens.{read_opens, stop_opens, empty_opens}
use Rattle.xmp_files.proofs.opening.read_file.Goals as goal

pub returns-in-Ok : goal.returns-in-Ok
returns-in-Ok c = read_opens c.args.held.now c.in-Some.text.now c.in-Ok.meaning c.joined.result (sym (ap option_copied c.in-Some.is) ∙ c.text.ensures) c.in-Ok.ensures c.joined.ensures

pub returns-in-Err : goal.returns-in-Err
returns-in-Err c =
    subst (λ (e : FaultStop). OpenAnswer c.args.held.now (Err e)) (sym c.within.ensures)
    (stop_opens c.args.held.now c.in-Some.text.now c.in-Err.stop (sym (ap option_copied c.in-Some.is) ∙ c.text.ensures) c.in-Err.ensures)

pub returns-in-None : goal.returns-in-None
returns-in-None c = empty_opens c.args.held.now c.no_meaning.result c.joined-in-None.result (sym (ap option_copied c.in-None.is) ∙ c.text.ensures) c.no_meaning.ensures c.joined-in-None.ensures
