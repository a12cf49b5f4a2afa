use Rattle.xmp_cli.specs.Commands.{command}
use Rattle.xmp_cli.proofs.OneOutcome.{one_outcome}
use Rattle.xmp_cli.proofs.laws.one_outcome.Goals as goal

pub returns : goal.returns
returns c words files a b = one_outcome (command words) files a b
