use Rattle.std.proofs.Common.{sym, subst, Err}
use Rattle.std.specs.declared.result.Result.{Result}
use Rattle.xmp_values.specs.Stops.{Gives}
use Rattle.xmp_values.specs.declared.faults.Fault.{Fault}
use Rattle.rdf_forms.specs.Merging.{merged}
use Rattle.xmp_rdf.specs.Merging.{twice_of}
use Rattle.xmp_rdf.specs.declared.meanings.Meaning.{Meaning}
use Rattle.xmp_rdf.specs.declared.merging.MergeStop.{MergeStop}
use Rattle.xmp_values.specs.declared.stops.FaultStop.{FaultStop}
use Rattle.xmp_values.specs.declared.stops.FaultStop.TheVariants as faults
use Rattle.xmp_files.specs.Openings.{TextAnswer}
use Rattle.xmp_files.proofs.Opens.{text_stopped, text_merged, text_twice}
use Rattle.xmp_files.proofs.opening.with_text.Goals as goal

pub returns-in-Err : goal.returns-in-Err
returns-in-Err c = subst (λ (e : FaultStop). TextAnswer c.args.text.now c.args.meaning (Err e)) (sym c.within.ensures) (text_stopped c.args.text.now c.args.meaning c.in-Err.stop c.in-Err.ensures)

pub returns-in-Ok-merge : goal.returns-in-Ok-merge
returns-in-Ok-merge c = text_merged c.args.text.now c.args.meaning c.in-Ok.more c.in-Ok.ensures c.in-Ok-merge.meaning c.in-Ok-merge.ensures

pub returns-in-Err-Twice : goal.returns-in-Err-Twice
returns-in-Err-Twice c =
    subst (λ (f : Fault). TextAnswer c.args.text.now c.args.meaning (Err (faults.Fault f))) (sym c.at.ensures)
    (text_twice c.args.text.now c.args.meaning c.in-Ok.more c.in-Ok.ensures c.in-Err-Twice.place
    (subst (λ (s : MergeStop). Gives twice_of (let r : Result Meaning MergeStop = Err s in r) (merged c.args.meaning c.in-Ok.more)) c.in-Err-Twice.field-0-is c.in-Err-Twice.ensures))
