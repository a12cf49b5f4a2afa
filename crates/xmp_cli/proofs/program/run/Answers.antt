use Rattle.xmp_cli.specs.Commands.{command}
use Rattle.xmp_cli.proofs.Ends.{complete}
use Rattle.xmp_cli.proofs.program.run.Goals as goal

pub returns : goal.returns
returns g c = record {
  run = record {
    calls = c.perform-status.ensures.call;
    complete = complete (command c.args.words.now) (g.D.Desk.state c.args.desk.now) (g.D.Desk.state c.perform-status.new.desk) (g.O.Sink.state c.args.out.now) (g.O.Sink.state c.perform-status.new.out)
        c.perform-status.result c.perform-status.ensures.call;
    refuses = c.perform-status.ensures.refuses;
    reported = c.report.ensures.call;
  };
}
