use Rattle.jpeg_regions.proofs.Sizes.{size_known, size_len, cut_done}
use Rattle.jpeg_regions.proofs.list.Regions.cut_from.Goals as goal

pub cut_known-requires-clause-known : goal.cut_known-requires-clause-known
cut_known-requires-clause-known g c = size_known _ _ _ _ c.in-Ok.ensures.call

pub cut_known-requires-clause-len : goal.cut_known-requires-clause-len
cut_known-requires-clause-len g c = size_len _ _ _ _ c.in-Ok.ensures.call

pub returns : goal.returns
returns g c = record { call = cut_done _ _ _ _ c.in-Ok.ensures.call _ _ c.cut_known.ensures.call }
