use Rattle.std.proofs.Common.{ℕ, List, take, Ok, Err, refl, ap, subst}
use Rattle.xmp_values.specs.declared.stops.PlaceStop.{PlaceStop}
use Rattle.xmp_rdf.specs.declared.meanings.Meaning.{Meaning}
use Rattle.xmp_files.specs.Meanings.{Means}
use Rattle.xmp_files.specs.Openings.{IsMeant}
use Rattle.xmp_files.proofs.Opens.{take_as_many}
use Rattle.xmp_files.proofs.meanings.note_of.Goals as goal

pub returns-in-Ok : goal.returns-in-Ok
returns-in-Ok c = (
  Ok c.in-Ok.meaning,
  subst (λ (text : List ℕ). Means text (Ok c.in-Ok.meaning)) (take_as_many _ c.of.result.text_len c.args.payload.now c.of.ensures.text) c.in-Ok.ensures,
  ap (λ (m : Meaning). m.note) c.meaning.view_is,
)

pub returns-in-Err-Fault : goal.returns-in-Err-Fault
returns-in-Err-Fault c = (
  Err (c.in-Err-Fault.field-0-0, c.in-Err-Fault.field-0-1),
  subst (λ (text : List ℕ). Means text (Err (c.in-Err-Fault.field-0-0, c.in-Err-Fault.field-0-1))) (take_as_many _ c.of.result.text_len c.args.payload.now c.of.ensures.text)
      (subst (λ (s : PlaceStop). IsMeant (take c.of.result.text_len c.args.payload.now) (Err s)) c.in-Err-Fault.field-0-is c.in-Err-Fault.ensures),
  refl,
)
