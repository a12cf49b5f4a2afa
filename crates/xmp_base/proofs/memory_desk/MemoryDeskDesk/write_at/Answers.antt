use Rattle.std.proofs.Common.{◌∙◌, sym, ap, subst, refl, arith, length}
use Rattle.std.specs.Option.{IsSome}
use Rattle.std.specs.FinMap.{get}
use Rattle.xmp_base.specs.Device.{bytes_of}
use Rattle.xmp_base.specs.Memory.{files_of}
use Rattle.xmp_base.specs.MemoryState.{DeskMemory}
use Rattle.xmp_base.proofs.InMemory.{wanted_fails, len_is, known_file}
use Rattle.xmp_base.proofs.InMemoryWrites.{write_done, write_fails, write_tears}
use Rattle.xmp_base.proofs.memory_desk.MemoryDeskDesk.write_at.Goals as goal

pub tear-requires-clause-known : goal.tear-requires-clause-known
tear-requires-clause-known c =
    subst (λ (d : DeskMemory). IsSome (get (files_of d.files) c.args.name.now)) (sym c.is_planned.ensures.calls) (known_file c.args.self.now c.args.name.now c.requires.known)

pub tear-requires-clause-within : goal.tear-requires-clause-within
tear-requires-clause-within c =
    let same = ap (λ (d : DeskMemory). length (bytes_of (files_of d.files) c.args.name.now)) c.is_planned.ensures.calls in
    omega (arith, c.requires.within, len_is c.args.self.now c.args.name.now, same)

pub returns-then-is_planned-clause-call : goal.returns-then-is_planned-clause-call
returns-then-is_planned-clause-call c =
    let same = ap (λ (d : DeskMemory). d.faults) c.is_planned.ensures.calls in
    write_tears _ _ _ _ _ _ _ c.requires.known c.requires.within c.is_planned.ensures.calls (omega (arith, c.is_planned.ensures.fits.0, same)) c.tear.ensures

pub write_noted-requires-clause-known : goal.write_noted-requires-clause-known
write_noted-requires-clause-known c =
    subst (λ (d : DeskMemory). IsSome (get (files_of d.files) c.args.name.now)) (sym c.is_planned.ensures.calls) (known_file c.args.self.now c.args.name.now c.requires.known)

pub write_noted-requires-clause-within : goal.write_noted-requires-clause-within
write_noted-requires-clause-within c =
    let same = ap (λ (d : DeskMemory). length (bytes_of (files_of d.files) c.args.name.now)) c.is_planned.ensures.calls in
    omega (arith, c.requires.within, len_is c.args.self.now c.args.name.now, same)

pub returns-in-Ok-clause-call : goal.returns-in-Ok-clause-call
returns-in-Ok-clause-call c =
    write_done _ _ _ _ _ _ _ _ _ c.requires.known c.is_planned.ensures.calls c.write_count-count.ensures.value c.write_count-count.ensures.most refl refl c.requires.within c.in-Ok.ensures.ok

pub returns-in-Err-clause-call : goal.returns-in-Err-clause-call
returns-in-Err-clause-call c = write_fails c.args.self.now c.want.new.self _ _ _ _ c.requires.known
    (wanted_fails _ _ _ (c.in-Err.ensures.err ∙ c.is_planned.ensures.calls) c.want.ensures.fits c.want.ensures.after)
