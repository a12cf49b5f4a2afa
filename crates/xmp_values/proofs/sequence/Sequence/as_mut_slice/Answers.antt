use Rattle.std.proofs.Common.{rules}
use Rattle.xmp_values.proofs.sequence.Sequence.as_mut_slice.Goals as goal

pub returns : goal.returns
returns g c = rw (c.self.inside.items.ok.0) (search rules)
