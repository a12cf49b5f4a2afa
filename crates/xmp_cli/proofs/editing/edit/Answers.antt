use Rattle.std.proofs.Common.{sym}
use Rattle.xmp_cli.proofs.EditExits.{load_stopped, open_refused, open_wants, plan_stopped, write_loaded, edit_done, edit_failed}
use Rattle.xmp_cli.proofs.editing.edit.Goals as goal

pub returns-in-Err : goal.returns-in-Err
returns-in-Err g c =
    let end = load_stopped c.args.file.now c.args.edits c.requires.apart (g.D.Desk.state c.args.desk.now) (g.D.Desk.state c.load.new.desk) (g.O.Sink.state c.args.out.now) c.load.result c.load.ensures.call
    c.in-Err.stop c.stopped.result c.in-Err.is c.stopped.ensures in
    record { call = end.call; refuses = end.refusals }

pub returns-in-Err-Fault : goal.returns-in-Err-Fault
returns-in-Err-Fault g c =
    let end = open_refused c.args.file.now c.args.edits c.requires.apart (g.D.Desk.state c.args.desk.now) (g.D.Desk.state c.load.new.desk) (g.O.Sink.state c.args.out.now) c.load.result c.load.ensures.call
    c.in-Ok.held c.in-Ok.is c.in-Err-Fault.fault _ (rw c.in-Err-Fault.field-0-is at c.in-Err-Fault.ensures) (sym c.in-Err-Fault.fault-is) in
    record { call = end.call; refuses = end.refusals }

pub returns-in-Err-Memory : goal.returns-in-Err-Memory
returns-in-Err-Memory g c =
    let end = open_wants c.args.file.now c.args.edits c.requires.apart (g.D.Desk.state c.args.desk.now) (g.D.Desk.state c.load.new.desk) (g.O.Sink.state c.args.out.now) c.load.result c.load.ensures.call
    c.in-Ok.held c.in-Ok.is in
    record { call = end.call; refuses = end.refusals }

pub returns-in-Err-plan_of : goal.returns-in-Err-plan_of
returns-in-Err-plan_of g c =
    let end = plan_stopped c.args.file.now c.args.edits c.requires.apart (g.D.Desk.state c.args.desk.now) (g.D.Desk.state c.load.new.desk) (g.O.Sink.state c.args.out.now) c.load.result c.load.ensures.call
    c.in-Ok.held c.in-Ok.is c.in-Ok-read_file.opened c.in-Ok-read_file.ensures (g.D.Desk.state c.plan_of.new.desk) c.plan_of.result c.plan_of.ensures.call
    c.in-Err-plan_of.stop c.stopped-in-Err-plan_of.result c.in-Err-plan_of.is c.stopped-in-Err-plan_of.ensures in
    record { call = end.call; refuses = end.refusals }

pub finish-requires-clause-loaded : goal.finish-requires-clause-loaded
finish-requires-clause-loaded g c =
    write_loaded c.args.file.now c.args.edits c.requires.apart (g.D.Desk.state c.args.desk.now) (g.D.Desk.state c.load.new.desk) (g.O.Sink.state c.args.out.now) c.load.result c.load.ensures.call
    c.in-Ok.held c.in-Ok.is c.in-Ok-read_file.opened c.in-Ok-read_file.ensures (g.D.Desk.state c.plan_of.new.desk) c.plan_of.result c.plan_of.ensures.call
    c.in-Ok-plan_of.planned c.in-Ok-plan_of.is

pub returns-in-Ok-finish : goal.returns-in-Ok-finish
returns-in-Ok-finish g c =
    let end = edit_done c.args.file.now c.args.edits c.requires.apart (g.D.Desk.state c.args.desk.now) (g.D.Desk.state c.load.new.desk) (g.O.Sink.state c.args.out.now) c.load.result c.load.ensures.call
    c.in-Ok.held c.in-Ok.is c.in-Ok-read_file.opened c.in-Ok-read_file.ensures (g.D.Desk.state c.plan_of.new.desk) c.plan_of.result c.plan_of.ensures.call
    c.in-Ok-plan_of.planned c.in-Ok-plan_of.is (g.D.Desk.state c.finish.new.desk) (g.O.Sink.state c.finish.new.out) c.in-Ok-finish.field-0 c.in-Ok-finish.ensures.call in
    record { call = end.call; refuses = end.refusals }

pub returns : goal.returns
returns g c =
    let end = edit_failed c.args.file.now c.args.edits c.requires.apart (g.D.Desk.state c.args.desk.now) (g.D.Desk.state c.load.new.desk) (g.O.Sink.state c.args.out.now) c.load.result c.load.ensures.call
    c.in-Ok.held c.in-Ok.is c.in-Ok-read_file.opened c.in-Ok-read_file.ensures (g.D.Desk.state c.plan_of.new.desk) c.plan_of.result c.plan_of.ensures.call
    c.in-Ok-plan_of.planned c.in-Ok-plan_of.is (g.D.Desk.state c.finish.new.desk) (g.O.Sink.state c.finish.new.out) c.in-Err-finish.field-0 c.in-Err-finish.ensures.call in
    record { call = end.call; refuses = end.refusals }
