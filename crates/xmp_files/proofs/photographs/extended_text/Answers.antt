use Rattle.std.proofs.Common.{List, Ok, Err, Option, subst, refl}
use Rattle.std.specs.declared.result.Result.{Result}
use Rattle.xmp_base.specs.declared.file_span.FileSpan.{FileSpan}
use Rattle.xmp_values.specs.declared.stops.FileStop.{FileStop}
use Rattle.xmp_files.specs.declared.held.Extended.{Extended}
use Rattle.xmp_files.specs.Loads.{JoinedCall}
use Rattle.xmp_files.proofs.LoadedExtended.{named_stopped, found_joined, found_stopped}
use Rattle.xmp_files.proofs.photographs.extended_text.Goals as goal

pub returns-in-Err : goal.returns-in-Err
returns-in-Err g c = record {
  call = named_stopped (g.D.Desk.state c.args.desk.now) (g.D.Desk.state c.named_from.new.desk) c.args.name.now c.args.size c.args.payloads.now c.args.note.now c.requires.inside
      c.in-Err.stop c.join_stop.result c.in-Err.ensures.call c.join_stop.ensures;
}

pub returns-in-Ok-joined_text : goal.returns-in-Ok-joined_text
returns-in-Ok-joined_text g c =
    let t = g.D.Desk.state c.named_from.new.desk in
    let u = g.D.Desk.state c.joined_text.new.desk in
    record {
      call = found_joined (g.D.Desk.state c.args.desk.now) t c.args.name.now c.args.size c.args.payloads.now c.args.note.now c.requires.inside c.in-Ok.portions c.in-Ok.ensures.call
          u c.in-Ok-joined_text.joined
          (subst (λ (ps : List FileSpan). JoinedCall t u c.args.name.now ps c.args.note.now (let r : Result (Option Extended) FileStop = Ok c.in-Ok-joined_text.joined in r)) c.as_slice.ensures.value
          c.in-Ok-joined_text.ensures.call)
          _ refl refl;
    }

pub returns-in-Err-joined_text : goal.returns-in-Err-joined_text
returns-in-Err-joined_text g c =
    let t = g.D.Desk.state c.named_from.new.desk in
    let u = g.D.Desk.state c.joined_text.new.desk in
    record {
      call = found_stopped (g.D.Desk.state c.args.desk.now) t c.args.name.now c.args.size c.args.payloads.now c.args.note.now c.requires.inside c.in-Ok.portions c.in-Ok.ensures.call
          u c.in-Err-joined_text.stop
          (subst (λ (ps : List FileSpan). JoinedCall t u c.args.name.now ps c.args.note.now (let r : Result (Option Extended) FileStop = Err c.in-Err-joined_text.stop in r)) c.as_slice.ensures.value
          c.in-Err-joined_text.ensures.call);
    }
