use Rattle.std.proofs.Common.{ℕ, List, Err, ap, sym, subst, ◌∙◌}
use Rattle.std.specs.declared.result.Result.{Result}
use Rattle.xmp_files.specs.Keeping.{Kept}
use Rattle.xmp_values.specs.declared.stops.FileStop.{FileStop}
use Rattle.xmp_values.specs.declared.stops.FaultStop.{FaultStop}
use Rattle.xmp_cli.specs.Sending.{SendAll}
use Rattle.xmp_cli.proofs.Exits.{absent, load_refused, load_failed, load_wants, view_wants, view_refused, view_sent, view_failed}
use Rattle.xmp_cli.proofs.showing.show.Goals as goal

abbrev unloaded : FileStop → Result Kept FileStop
unloaded stop = Err stop

abbrev stopped : FaultStop → Result (List ℕ) FaultStop
stopped stop = Err stop

pub returns-in-Err-Absent : goal.returns-in-Err-Absent
returns-in-Err-Absent g c =
    let end = absent c.args.file.now c.args.view (g.D.Desk.state c.args.desk.now) (g.D.Desk.state c.load.new.desk) (g.O.Sink.state c.args.out.now) c.load.result c.load.ensures.call
    c.no_file.result (c.in-Err-Absent.is ∙ ap unloaded c.in-Err-Absent.field-0-is) c.no_file.ensures in
    record { call = end.call; refuses = end.refusals }

pub returns-in-Err-Fault : goal.returns-in-Err-Fault
returns-in-Err-Fault g c =
    let end = load_refused c.args.file.now c.args.view (g.D.Desk.state c.args.desk.now) (g.D.Desk.state c.load.new.desk) (g.O.Sink.state c.args.out.now) c.load.result c.load.ensures.call
    c.in-Err-Fault.fault _ (c.in-Err-Fault.is ∙ ap unloaded c.in-Err-Fault.field-0-is) (sym c.in-Err-Fault.fault-is) in
    record { call = end.call; refuses = end.refusals }

pub returns-in-Err-Device : goal.returns-in-Err-Device
returns-in-Err-Device g c =
    let end = load_failed c.args.file.now c.args.view (g.D.Desk.state c.args.desk.now) (g.D.Desk.state c.load.new.desk) (g.O.Sink.state c.args.out.now) c.load.result c.load.ensures.call
    (c.in-Err-Device.is ∙ ap unloaded c.in-Err-Device.field-0-is) in
    record { call = end.call; refuses = end.refusals }

pub returns-in-Err-Memory : goal.returns-in-Err-Memory
returns-in-Err-Memory g c =
    let end = load_wants c.args.file.now c.args.view (g.D.Desk.state c.args.desk.now) (g.D.Desk.state c.load.new.desk) (g.O.Sink.state c.args.out.now) c.load.result c.load.ensures.call
    (c.in-Err-Memory.is ∙ ap unloaded c.in-Err-Memory.field-0-is) in
    record { call = end.call; refuses = end.refusals }

pub returns-in-Ok-send : goal.returns-in-Ok-send
returns-in-Ok-send g c =
    let end = view_sent c.args.file.now c.args.view (g.D.Desk.state c.args.desk.now) (g.D.Desk.state c.load.new.desk) (g.O.Sink.state c.args.out.now) c.load.result c.load.ensures.call c.in-Ok.held c.in-Ok.is
    c.view_text.result c.view_text.ensures (g.O.Sink.state c.send.new.out) c.in-Ok-view_text.text c.in-Ok-view_text.is c.send.result
    (subst (λ (l : List ℕ). SendAll (g.O.Sink.state c.args.out.now) (g.O.Sink.state c.send.new.out) l c.send.result) c.as_slice.ensures c.send.ensures.call) c.in-Ok-send.field-0 c.in-Ok-send.is in
    record { call = end.call; refuses = end.refusals }

pub returns-in-Ok-view_text : goal.returns-in-Ok-view_text
returns-in-Ok-view_text g c =
    let end = view_failed c.args.file.now c.args.view (g.D.Desk.state c.args.desk.now) (g.D.Desk.state c.load.new.desk) (g.O.Sink.state c.args.out.now) c.load.result c.load.ensures.call c.in-Ok.held c.in-Ok.is
    c.view_text.result c.view_text.ensures (g.O.Sink.state c.send.new.out) c.in-Ok-view_text.text c.in-Ok-view_text.is c.send.result
    (subst (λ (l : List ℕ). SendAll (g.O.Sink.state c.args.out.now) (g.O.Sink.state c.send.new.out) l c.send.result) c.as_slice.ensures c.send.ensures.call) c.in-Err.field-0 c.in-Err.is in
    record { call = end.call; refuses = end.refusals }

pub returns-in-Err-Fault-view_text : goal.returns-in-Err-Fault-view_text
returns-in-Err-Fault-view_text g c =
    let end = view_refused c.args.file.now c.args.view (g.D.Desk.state c.args.desk.now) (g.D.Desk.state c.load.new.desk) (g.O.Sink.state c.args.out.now) c.load.result c.load.ensures.call c.in-Ok.held c.in-Ok.is
    c.view_text.result c.view_text.ensures c.in-Err-Fault-view_text.fault (c.in-Err-Fault-view_text.is ∙ ap stopped c.in-Err-Fault-view_text.field-0-is) in
    record { call = end.call; refuses = end.refusals }

pub returns : goal.returns
returns g c =
    let end = view_wants c.args.file.now c.args.view (g.D.Desk.state c.args.desk.now) (g.D.Desk.state c.load.new.desk) (g.O.Sink.state c.args.out.now) c.load.result c.load.ensures.call c.in-Ok.held c.in-Ok.is in
    record { call = end.call; refuses = end.refusals }
