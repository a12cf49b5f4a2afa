use Rattle.std.proofs.Common.{◌∙◌, sym, arith}
use Rattle.jpeg_relocation.proofs.Indexes.{no_index, within_list, index_is, old_is}
use Rattle.jpeg_relocation.proofs.kept.index_of.Goals as goal

pub returns-in-None : goal.returns-in-None
returns-in-None c = no_index c.args.joined.now c.args.regions.now c.first_index.result c.first_index.ensures c.in-None.is

pub range-range-requires : goal.range-range-requires
range-range-requires c = omega (arith, within_list 0 c.in-Some.i c.args.regions.now (sym c.first_index.ensures ∙ c.in-Some.is))

pub overflow_sub-result : goal.overflow_sub-result
overflow_sub-result c =
    omega (
      arith,
      old_is c.args.joined.now c.args.regions.now c.args.size c.in-Some.i c.args.place c.range-range.result c.requires.tiles (sym c.first_index.ensures ∙ c.in-Some.is)
          c.range-range.ensures c.requires.is,
    )

pub returns-in-Some : goal.returns-in-Some
returns-in-Some c =
    index_is c.args.joined.now c.args.regions.now c.args.size c.in-Some.i c.args.place c.range-range.result c.requires.tiles (sym c.first_index.ensures ∙ c.in-Some.is)
    c.range-range.ensures c.requires.is c.kept_len.result c.kept_len.ensures
