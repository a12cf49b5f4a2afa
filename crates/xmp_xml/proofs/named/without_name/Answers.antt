use Rattle.std.proofs.Common.{None}
use Rattle.xmp_xml.proofs.Naming.{named_updates}
use Rattle.xmp_xml.proofs.named.without_name.Goals as goal

pub returns : goal.returns
returns c = named_updates c.args.name.now c.args.map c.remove.new.self None c.remove.ensures.updates
