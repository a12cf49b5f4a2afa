use Rattle.std.proofs.Common.{[], refl, subst, List, ℕ, Err}
use Rattle.xmp_base.specs.Memory.{files_of}
use Rattle.tiff_dirs.specs.declared.stop.WalkStop.{WalkStop}
use Rattle.tiff_dirs.specs.Model.{IsTiff}
use Rattle.tiff_dirs.specs.FromDesk.{WalkFromAnswer}
use Rattle.tiff_dirs.proofs.Sizes.{stored_known, stored_begins, stored_is}
use Rattle.tiff_dirs.proofs.walk.Dirs.walk.Goals as goal

pub walk_from-requires-clause-known : goal.walk_from-requires-clause-known
walk_from-requires-clause-known c = stored_known c.new-desk.result c.add.new.self [] c.args.bytes.now c.in-Ok.ensures.ok

pub walk_from-requires-clause-begins : goal.walk_from-requires-clause-begins
walk_from-requires-clause-begins c = stored_begins c.new-desk.result c.add.new.self [] c.args.bytes.now c.in-Ok.ensures.ok c.requires

pub returns-in-Ok-walk_from : goal.returns-in-Ok-walk_from
returns-in-Ok-walk_from c =
    subst (λ (file : List ℕ). IsTiff file c.in-Ok-walk_from.dirs) (stored_is c.new-desk.result c.add.new.self [] c.args.bytes.now c.in-Ok.ensures.ok)
    (c.in-Ok-walk_from.ensures.call.told (files_of c.add.new.self.files) refl)

pub returns-in-Err-Fault : goal.returns-in-Err-Fault
returns-in-Err-Fault c =
    let file = c.args.bytes.now in
    subst (λ (s : WalkStop). WalkFromAnswer file (Err s)) c.in-Err-Fault.field-0-is
    (subst (λ (bytes : List ℕ). WalkFromAnswer bytes (Err c.in-Err-Fault.field-0)) (stored_is c.new-desk.result c.add.new.self [] file c.in-Ok.ensures.ok)
    (c.in-Err-Fault.ensures.call.told (files_of c.add.new.self.files) refl))
