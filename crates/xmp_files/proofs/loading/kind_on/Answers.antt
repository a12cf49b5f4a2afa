use Rattle.std.proofs.Common.{sym, ◌∙◌, arith, Ok, Err}
use Rattle.std.proofs.lemmas.List.{length-take}
use Rattle.xmp_files.proofs.Loads.{kind_read}
use Rattle.xmp_files.proofs.loading.kind_on.Goals as goal

pub returns-in-Ok-known : goal.returns-in-Ok-known
returns-in-Ok-known g c = record {
  call = kind_read _ _ _ _ c.fill_from.new.to (Ok c.in-Ok-known.kind) (sym c.in-Ok-known.is ∙ c.known.ensures) c.requires.told (c.fill_from.auto.to ∙ length-take _ _ ∙ omega (arith, c.min.ensures)) c.in-Ok.ensures.call;
}

pub returns-in-Err-known : goal.returns-in-Err-known
returns-in-Err-known g c = record {
  call = kind_read _ _ _ _ c.fill_from.new.to (Err c.in-Err-known.fault) (sym c.in-Err-known.is ∙ c.known.ensures) c.requires.told (c.fill_from.auto.to ∙ length-take _ _ ∙ omega (arith, c.min.ensures)) c.in-Ok.ensures.call;
}
