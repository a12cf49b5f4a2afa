use Rattle.std.proofs.Common.{◌≡◌, ◌+◌, List, ap, subst, ◌∙◌, arith, Some, Ok}
use Rattle.std.specs.declared.option.Option.{Option}
use Rattle.xmp_base.specs.declared.file_span.FileSpan.{FileSpan}
use Rattle.std.specs.List.{slice_get}
use Rattle.tiff_dirs.specs.Pictures.{Picture, spans_of}
use Rattle.tiff_dirs.specs.Pairs.{RangeAnswer, listed_from}
use Rattle.tiff_dirs.proofs.Listing.{range_there}
use Rattle.tiff_dirs.proofs.ranges.nth_range.Goals as goal

pub returns-in-Ok-Some : goal.returns-in-Ok-Some
returns-in-Ok-Some c =
    let l = c.args.listed.now in
    let n = c.args.n in
    let shown = c.requires.shown in
    let within = c.requires.within in
    let all = c.if-shown-listed.true in
    let at : 0 + n ≡ n = omega arith in
    let answer : RangeAnswer c.args.len (listed_from l n) (listed_from l (n + 1)) l.pair.place (Ok (Some c.in-Ok-Some.range)) =
    subst (λ (o : Option FileSpan). RangeAnswer c.args.len (listed_from l n) (listed_from l (n + 1)) l.pair.place (Ok o)) c.in-Ok-Some.field-0-is c.in-Ok-Some.ensures in
    range_there l.big l.pair l.offsets.now l.lens.now n 0 (omega (arith, within, all)) (omega (arith, shown, all))
    ∙ ap (λ j. slice_get (spans_of (listed_from l j)) 0) at
    ∙ ap (λ (t : List Picture). slice_get (spans_of t) 0) answer.0
