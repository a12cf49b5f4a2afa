use Rattle.std.proofs.Common.{◌≡◌, ap, sym, subst, ◌∙◌, ◌<◌, ◌^◌, arith, length, is_some, ℕ, List}
use Rattle.std.specs.Prelude.{All}
use Rattle.xmp_base.specs.Device.{len_of}
use Rattle.xmp_files.specs.declared.parts.FilePart.{FilePart}
use Rattle.xmp_files.specs.Planning.{Part, parts_len}
use Rattle.xmp_files.specs.NewFiles.{parts_at, PartLies}
use Rattle.xmp_files.specs.Plans.{planned_len}
use Rattle.xmp_files.specs.Emitting.{PartsCall}
use Rattle.std.specs.Option.{unwrap_or}
use Rattle.std.specs.declared.option.Option.{Option}
use Rattle.xmp_base.proofs.Ends.{created_known, created_len, created_other}
use Rattle.xmp_files.proofs.Emits.{emit_unmade}
use Rattle.xmp_files.proofs.EmittedPlans.{emit_anew, emit_near}
use Rattle.xmp_files.proofs.emitting.emit.Goals as goal

pub returns-in_err-create : goal.returns-in_err-create
returns-in_err-create g c = record { call = emit_unmade _ _ _ _ _ _ c.in_err-create.field-0.0 _ c.in_err-create.ensures.call c.from_residual.ensures.0 }

pub put_parts-requires-clause-source : goal.put_parts-requires-clause-source
put_parts-requires-clause-source g c = ap is_some (created_other _ _ _ c.in_ok-create.ensures.call _ c.requires.apart ∙ c.requires.known)

pub put_parts-requires-clause-target : goal.put_parts-requires-clause-target
put_parts-requires-clause-target g c = created_known _ _ _ c.in_ok-create.ensures.call

pub put_parts-requires-clause-at_end : goal.put_parts-requires-clause-at_end
put_parts-requires-clause-at_end g c = created_len _ _ _ c.in_ok-create.ensures.call

pub put_parts-requires-clause-inside : goal.put_parts-requires-clause-inside
put_parts-requires-clause-inside g c =
    let size : len_of (g.D.Desk.state c.create.new.self) c.args.from.now ≡ c.args.plan.now.size =
    ap (λ (o : Option ℕ). unwrap_or o 0) (created_other _ _ _ c.in_ok-create.ensures.call _ c.requires.apart ∙ c.requires.known) ∙ sym c.requires.sized in
    subst (λ (n : ℕ). All (PartLies n (length c.as_slice-bytes.result.now)) c.as_slice.result.now) (sym size)
    (subst (λ (b : List ℕ). All (PartLies c.args.plan.now.size (length b)) c.as_slice.result.now) (sym c.as_slice-bytes.ensures)
    (subst (λ (ps : List FilePart). All (PartLies c.args.plan.now.size (length c.in-Some.new.now.bytes)) ps) (sym c.as_slice.ensures.value) c.in-Some.ensures.1.lie))

pub put_parts-requires-clause-room : goal.put_parts-requires-clause-room
put_parts-requires-clause-room g c =
    subst (λ (b : List ℕ). parts_len (parts_at b c.as_slice.result.now) < 2 ^ 64) (sym c.as_slice-bytes.ensures)
    (subst (λ (ps : List FilePart). parts_len (parts_at c.in-Some.new.now.bytes ps) < 2 ^ 64) (sym c.as_slice.ensures.value) (omega (arith, c.new_len.ensures, ap (planned_len c.args.plan.now.size) c.in-Some.ensures.0)))

pub returns-in-Some : goal.returns-in-Some
returns-in-Some g c =
    record {
      call = emit_anew c.args.held.now c.args.plan.now.plan (g.D.Desk.state c.args.desk.now) (g.D.Desk.state c.create.new.self) (g.D.Desk.state c.put_parts.new.desk) c.args.from.now c.args.to.now c.requires.apart
          c.in_ok-create.ensures.call c.in-Some.new.now c.put_parts.result c.in-Some.ensures.0
          (subst (λ (l : List Part). PartsCall (g.D.Desk.state c.create.new.self) (g.D.Desk.state c.put_parts.new.desk) c.args.from.now c.args.to.now l c.put_parts.result)
          (λ i. parts_at (c.as_slice-bytes.ensures i) (c.as_slice.ensures.value i)) c.put_parts.ensures.call);
    }

pub put_near-requires-clause-target : goal.put_near-requires-clause-target
put_near-requires-clause-target g c = created_known _ _ _ c.in_ok-create.ensures.call

pub put_near-requires-clause-source : goal.put_near-requires-clause-source
put_near-requires-clause-source g c = created_other _ _ _ c.in_ok-create.ensures.call _ c.requires.apart ∙ c.requires.known

pub put_near-requires-clause-at_end : goal.put_near-requires-clause-at_end
put_near-requires-clause-at_end g c = created_len _ _ _ c.in_ok-create.ensures.call

pub returns-in-None : goal.returns-in-None
returns-in-None g c = record {
  call = emit_near c.args.held.now c.args.plan.now.plan (g.D.Desk.state c.args.desk.now) (g.D.Desk.state c.create.new.self) (g.D.Desk.state c.put_near.new.desk) c.args.from.now c.args.to.now c.requires.apart
      c.in_ok-create.ensures.call c.put_near.result c.requires.loaded c.requires.planned c.requires.lies c.in-None.ensures c.put_near.ensures.call;
}
