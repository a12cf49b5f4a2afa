use Rattle.std.proofs.Common.{◌≡◌, ◌∙◌, subst, ◌-◌, length, Err, arith}
use Rattle.std.proofs.lemmas.List.{length-take-le}
use Rattle.xmp_base.specs.Device.{bytes_of}
use Rattle.xmp_values.specs.declared.stops.PlaceStop.{PlaceStop}
use Rattle.jpeg_regions.specs.Cutting.{TakeAnswer}
use Rattle.jpeg_regions.proofs.Pieces.{piece_read}
use Rattle.jpeg_regions.proofs.from_desk.advance.Goals as goal

pub returns-in-Ok-take-clause-answer : goal.returns-in-Ok-take-clause-answer
returns-in-Ok-take-clause-answer g c = λ files told full read.
    let file = bytes_of files c.args.name.now in
    let size : length c.fill_from.new.to ≡ c.wanted-wanted.result.end - c.wanted-wanted.result.start = c.fill_from.auto.to ∙ length-take-le _ _ (omega (arith, c.wanted-wanted.ensures.most)) in
    c.in-Ok-take.ensures.answer file full read
    (piece_read file c.fill_from.new.to _ _ _ _ _ full c.wanted-wanted.ensures.start c.wanted-wanted.ensures.end size (c.in-Ok.ensures.call.bytes files told))

pub returns-in-Err-Fault-clause-answer : goal.returns-in-Err-Fault-clause-answer
returns-in-Err-Fault-clause-answer g c = λ files told full read.
    let file = bytes_of files c.args.name.now in
    let size : length c.fill_from.new.to ≡ c.wanted-wanted.result.end - c.wanted-wanted.result.start = c.fill_from.auto.to ∙ length-take-le _ _ (omega (arith, c.wanted-wanted.ensures.most)) in
    subst (λ (s : PlaceStop). TakeAnswer file c.take.new.found.items (Err s)) c.in-Err-Fault.field-0-is
    (c.in-Err-Fault.ensures.answer file full read
    (piece_read file c.fill_from.new.to _ _ _ _ _ full c.wanted-wanted.ensures.start c.wanted-wanted.ensures.end size (c.in-Ok.ensures.call.bytes files told)))
