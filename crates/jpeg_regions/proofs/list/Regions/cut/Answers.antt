use Rattle.std.proofs.Common.{◌≡◌, subst, sym, ℕ, length, Some}
use Rattle.std.specs.declared.option.Option.{Option}
use Rattle.std.proofs.lemmas.Result.{err_from_is_err_and}
use Rattle.jpeg_regions.specs.declared.reading.Reading.{Reading}
use Rattle.jpeg_regions.specs.Cutting.{CutSoFar, Numbers}
use Rattle.jpeg_regions.proofs.Kept.{stopped}
use Rattle.jpeg_regions.proofs.Pieces.{piece_is}
use Rattle.jpeg_regions.proofs.list.Regions.cut.Goals as goal

pub returns-in_err-next-clause-answer : goal.returns-in_err-next-clause-answer
returns-in_err-next-clause-answer c =
    let bytes = c.args.bytes.now in
    let full : length bytes ≡ c.in-Some.reading.len = sym (subst (λ (o : Option Reading). Numbers (length bytes) c.loop-next.found.items o) c.in-Some.is c.loop-next.invariant.numbers).0 in
    let read : CutSoFar bytes c.loop-next.found.items (Some c.in-Some.reading) = subst (λ (o : Option Reading). CutSoFar bytes c.loop-next.found.items o) c.in-Some.is c.loop-next.invariant.cut in
    let p = err_from_is_err_and c.from_residual.result c.from_residual.ensures.1 in
    rw (p.1, p.2) (stopped bytes c.take.new.found.items c.in_err-next.field-0.0
    (c.in_err-next.ensures.answer bytes full read (piece_is bytes _ _ _ _ _ full c.wanted-wanted.ensures.start c.wanted-wanted.ensures.end)))

pub loop-next-preserved : goal.loop-next-preserved
loop-next-preserved c =
    let bytes = c.args.bytes.now in
    let numbers = subst (λ (o : Option Reading). Numbers (length bytes) c.loop-next.found.items o) c.in-Some.is c.loop-next.invariant.numbers in
    let full : length bytes ≡ c.in-Some.reading.len = sym numbers.0 in
    let read : CutSoFar bytes c.loop-next.found.items (Some c.in-Some.reading) = subst (λ (o : Option Reading). CutSoFar bytes c.loop-next.found.items o) c.in-Some.is c.loop-next.invariant.cut in
    record {
      numbers = subst (λ (k : ℕ). Numbers k c.take.new.found.items c.in_ok-next.next) numbers.0 c.in_ok-next.ensures.numbers;
      cut = c.in_ok-next.ensures.answer bytes full read (piece_is bytes _ _ _ _ _ full c.wanted-wanted.ensures.start c.wanted-wanted.ensures.end);
    }
