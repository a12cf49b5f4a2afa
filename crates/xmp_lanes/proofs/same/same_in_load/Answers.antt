use Rattle.std.proofs.Common.{eqb, not}
use Rattle.xmp_lanes.proofs.LoadRuns.{pair_run, twice_not}
use Rattle.xmp_lanes.proofs.same.same_in_load.Goals as goal

pub returns : goal.returns
returns c = pair_run c.args.a.now c.args.b.now c.args.at c.first_set.result c.requires.a c.requires.b (λ x y. not (eqb x y)) (λ x y. twice_not (eqb x y)) c.first_set.ensures
