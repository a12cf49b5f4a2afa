use Rattle.std.proofs.Common.{ap, sym, subst, ◌∙◌, arith, length, is_some, ℕ, List}
use Rattle.std.specs.Option.{unwrap_or}
use Rattle.std.specs.declared.option.Option.{Option}
use Rattle.std.specs.Prelude.{All, ◌<◌, ◌^◌}
use Rattle.xmp_base.specs.Device.{len_of}
use Rattle.xmp_files.specs.declared.parts.FilePart.{FilePart}
use Rattle.xmp_files.specs.Planning.{Part, parts_len}
use Rattle.xmp_files.specs.NewFiles.{parts_at, PartLies}
use Rattle.xmp_files.specs.Emitting.{PartsCall}
use Rattle.xmp_files.proofs.EmittedPlans.{put_is, put_lies, put_room}
use Rattle.xmp_files.proofs.emitting.put_near.Goals as goal

pub put_parts-requires-clause-source : goal.put_parts-requires-clause-source
put_parts-requires-clause-source g c = ap is_some c.requires.source

pub put_parts-requires-clause-inside : goal.put_parts-requires-clause-inside
put_parts-requires-clause-inside g c =
    subst (All (PartLies (len_of (g.D.Desk.state c.args.desk.now) c.args.from.now) (length c.bytes-bytes.result.now))) (sym c.spliced-parts.ensures)
    (put_lies c.args.held.now c.args.plan.now.plan _ _ _ _ c.payload_place-at.ensures c.payload_len.ensures c.size-size.ensures c.bytes-bytes.ensures c.requires.lies _
    (ap (λ (o : Option ℕ). unwrap_or o 0) c.requires.source ∙ sym c.size-size.ensures))

pub put_parts-requires-clause-room : goal.put_parts-requires-clause-room
put_parts-requires-clause-room g c =
    subst (λ (l : List FilePart). parts_len (parts_at c.bytes-bytes.result.now l) < 2 ^ 64) (sym c.spliced-parts.ensures)
    (put_room c.args.held.now c.args.plan.now.plan _ _ _ _ c.payload_place-at.ensures c.payload_len.ensures c.size-size.ensures c.bytes-bytes.ensures c.requires.lies c.requires.planned c.requires.near (omega arith))

pub returns : goal.returns
returns g c =
    let is = ap (parts_at c.bytes-bytes.result.now) c.spliced-parts.ensures
    ∙ put_is c.args.held.now c.args.plan.now.plan _ _ _ _ c.payload_place-at.ensures c.payload_len.ensures c.size-size.ensures c.bytes-bytes.ensures c.requires.lies in
    record { call = subst (λ (l : List Part). PartsCall (g.D.Desk.state c.args.desk.now) (g.D.Desk.state c.put_parts.new.desk) c.args.from.now c.args.to.now l c.put_parts.result) is c.put_parts.ensures.call }
