use Rattle.tiff_dirs.proofs.Sizes.{size_known, size_len, walk_done, too_short}
use Rattle.tiff_dirs.proofs.Walks.{walk_none}
use Rattle.tiff_dirs.proofs.walk.Dirs.walk_from.Goals as goal

pub returns-then-len-lt8 : goal.returns-then-len-lt8
returns-then-len-lt8 g c = record {
  call = too_short (g.D.Desk.state c.args.desk.now) (g.D.Desk.state c.size.new.self) c.args.name.now c.in-Ok.len c.in-Ok.ensures.call (walk_none (g.D.Desk.state c.size.new.self) c.args.name.now) c.if-len-lt8.true;
}

pub walk_known-requires-clause-known : goal.walk_known-requires-clause-known
walk_known-requires-clause-known g c = size_known _ _ _ _ c.in-Ok.ensures.call

pub walk_known-requires-clause-len : goal.walk_known-requires-clause-len
walk_known-requires-clause-len g c = size_len _ _ _ _ c.in-Ok.ensures.call

pub returns : goal.returns
returns g c = record {
  call = walk_done _ _ _ _ c.in-Ok.ensures.call (g.D.Desk.state c.walk_known.new.desk) c.walk_known.result c.walk_known.ensures.calls c.walk_known.ensures.lens c.walk_known.ensures.answer c.walk_known.ensures.device;
}
