use Rattle.std.proofs.Common.{sym, ◌∙◌}
use Rattle.xmp_files.proofs.Loads.{load_after, kind_stopped}
use Rattle.xmp_files.proofs.loading.load_sized.Goals as goal

pub returns-in-Ok : goal.returns-in-Ok
returns-in-Ok g c = record { call = load_after c.args.need _ _ _ _ _ _ _ c.in-Ok.ensures.call c.requires.len c.load_container.ensures.call }

pub returns-in-Err : goal.returns-in-Err
returns-in-Err g c = record { call = kind_stopped c.args.need _ _ _ _ (record { len = c.requires.len; whole = c.requires.told }) _ c.in-Err.ensures.call }

pub load_container-requires-clause-kind : goal.load_container-requires-clause-kind
load_container-requires-clause-kind g c = λ files told. c.in-Ok.ensures.call.answer files (sym c.in-Ok.ensures.call.calls.same.files ∙ told)
