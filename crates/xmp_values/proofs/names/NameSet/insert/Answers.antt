use Rattle.xmp_values.proofs.NameSets.{is_new, holds}
use Rattle.xmp_values.proofs.names.NameSet.insert.Goals as goal

pub returns-clause-added : goal.returns-clause-added
returns-clause-added c =
    let keys = c.self.inside.keys.keys in
    is_new (c.args.local, c.args.space) keys c.args.self.now c.self.view_is c.in_ok-is_new.is_new c.in_ok-is_new.ensures.added

pub returns-clause-holds : goal.returns-clause-holds
returns-clause-holds c =
    let keys = c.self.inside.keys.keys in
    holds (c.args.local, c.args.space) keys c.args.self.now c.self.view_is c.insert.new.self.keys c.in_ok-is_new.ensures.keys
