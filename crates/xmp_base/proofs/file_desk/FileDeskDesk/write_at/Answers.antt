use Rattle.xmp_base.proofs.OnFiles.{found_at, len_is, lens_set, lens_same, write_told, write_none, write_failed}
use Rattle.xmp_base.proofs.file_desk.FileDeskDesk.write_at.Goals as goal
use Rattle.std.proofs.Common.{refl, ap, sym, ◌∙◌, ℕ, List, Some}
use Rattle.std.proofs.lemmas.Bool.{eqb-true}
use Rattle.std.specs.declared.option.Option.{Option}

pub returns-then-is_empty : goal.returns-then-is_empty
returns-then-is_empty g c = record { call = write_none _ _ _ _ _ _ c.requires.known c.requires.within (eqb-true _ 0 (sym c.is_empty.ensures ∙ c.if-is_empty.true)) }

pub returns-in_default : goal.returns-in_default
returns-in_default g c = rw c.fault.ensures.counted (record { call = write_failed _ _ _ _ _ _ c.requires.known _ _ refl c.fault.ensures.fits })

pub returns-in-Ok : goal.returns-in-Ok
returns-in-Ok g c = let found = found_at _ _ _ _ c.in-Some.ensures c.index_mut-known.ensures.value in record {
  call = write_told _ _ _ _ _ _ c.unwrap_or-len.result c.max.result _ _
      (lens_set _ _ _ _ _ _ found (ap (λ (p : List ℕ × Option ℕ). (p.0, Some c.max.result)) c.write_at.ensures.same)) c.max.ensures
      (len_is _ _ _ _ _ found c.unwrap_or-len.ensures) c.in-Ok.ensures.count.1 c.in-Ok.ensures.count.0;
}

pub returns-in-Err : goal.returns-in-Err
returns-in-Err g c = let found = found_at _ _ _ _ c.in-Some.ensures c.index_mut-known.ensures.value in rw c.fault-in-Err.ensures.counted (record {
  call = write_failed _ _ _ _ _ _ c.requires.known _ _ (lens_same _ _ _ _ _ found c.write_at.ensures.same) c.fault-in-Err.ensures.fits;
})
