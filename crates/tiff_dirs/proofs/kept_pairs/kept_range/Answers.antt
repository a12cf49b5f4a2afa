use Rattle.std.proofs.Common.{◌-◌, length, get_or, take, sym, ap, ◌∙◌, arith}
use Rattle.std.specs.List.{slice_get}
use Rattle.std.proofs.lemmas.Option.{slice_get-get_or}
use Rattle.std.proofs.lemmas.List.Elements.{All-get_or}
use Rattle.std.proofs.lemmas.List.Sums.{sum_by_more}
use Rattle.tiff_dirs.specs.declared.tables.CountedPair.{CountedPair}
use Rattle.tiff_dirs.specs.Pictures.{spans_of}
use Rattle.tiff_dirs.specs.Pairs.{IsCounted, count_of, listed_from}
use Rattle.tiff_dirs.proofs.Counted.{none, range_of}
use Rattle.tiff_dirs.proofs.kept_pairs.kept_range.Goals as goal

pub listed_by-listed-requires : goal.listed_by-listed-requires
listed_by-listed-requires c = (All-get_or (IsCounted c.args.big c.args.len c.args.pieces.now) c.args.pairs.now c.pair_of.result none c.pair_of.ensures.within c.requires.each).placed

pub overflow_sub-i : goal.overflow_sub-i
overflow_sub-i c =
    let k = c.pair_of.result in
    let first = c.requires.ranked k (get_or c.args.pairs.now k none) (slice_get-get_or c.args.pairs.now k none c.pair_of.ensures.within) in
    let least = c.pair_of.ensures.least in
    omega (arith, first, least)

pub nth_range-requires-clause-within : goal.nth_range-requires-clause-within
nth_range-requires-clause-within c =
    let k = c.pair_of.result in
    let pairs = c.args.pairs.now in
    let within = c.pair_of.ensures.within in
    let first = c.requires.ranked k (get_or pairs k none) (slice_get-get_or pairs k none within) in
    let least = c.pair_of.ensures.least in
    let most = c.pair_of.ensures.most in
    let more = sum_by_more (λ (x : CountedPair). x.shown) pairs k none within in
    let shown = (All-get_or (IsCounted c.args.big c.args.len c.args.pieces.now) pairs k none within c.requires.each).shown in
    let same = ap length c.listed_by-listed.ensures in
    omega (arith, first, least, most, more, shown, same)

pub returns : goal.returns
returns c =
    let k = c.pair_of.result in
    let pairs = c.args.pairs.now in
    let here = get_or pairs k none in
    let within = c.pair_of.ensures.within in
    let at = slice_get-get_or pairs k none within in
    let first = c.requires.ranked k here at in
    let most = c.pair_of.ensures.most in
    let more = sum_by_more (λ (x : CountedPair). x.shown) pairs k none within in
    range_of c.args.big c.args.pieces.now c.args.len pairs k c.args.i here c.requires.each at c.pair_of.ensures.least (omega (arith, most, more))
    ∙ ap (λ t. slice_get (spans_of t) (c.args.i - count_of (take k pairs))) (sym c.listed_by-listed.ensures)
    ∙ ap (λ n. slice_get (spans_of (listed_from c.listed_by-listed.result 0)) (c.args.i - n)) (sym first)
    ∙ c.nth_range.ensures
