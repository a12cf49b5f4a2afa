use Rattle.std.proofs.Common.{◌≡◌, ◌∙◌, sym, ◌-◌, min, length, arith}
use Rattle.std.proofs.lemmas.List.{length-take-le}
use Rattle.xmp_base.specs.Device.{bytes_of}
use Rattle.irb_iptc.specs.Scanning.{range_of}
use Rattle.irb_iptc.proofs.Pieces.{length-range, range_front}
use Rattle.irb_iptc.proofs.Scanned.{head_room, scan_head, scan_trans}
use Rattle.irb_iptc.proofs.scanning.next_from.Goals as goal

pub returns-in_err-fill_from-clause-calls : goal.returns-in_err-fill_from-clause-calls
returns-in_err-fill_from-clause-calls g c =
    let size : length c.fill_from.new.to ≡ min 7 (c.args.end - c.args.start) = c.fill_from.auto.to ∙ length-take-le _ _ (omega arith) ∙ (omega arith) in
    scan_head _ _ _ c.args.start _ _ c.args.end c.in_err-fill_from.ensures.call.calls (omega arith) (omega (arith, size))
    (λ files told r more s. omega (arith, head_room r _ more s, size))

pub sized_from-requires-clause-named : goal.sized_from-requires-clause-named
sized_from-requires-clause-named g c = λ files now.
    let told = sym c.in_ok-fill_from.ensures.call.calls.same.files ∙ now in
    let file = bytes_of files c.args.name.now in
    let size : length c.fill_from.new.to ≡ min 7 (c.args.end - c.args.start) = c.fill_from.auto.to ∙ length-take-le _ _ (omega arith) ∙ (omega arith) in
    c.in-Named.ensures.is (range_of file c.args.start c.args.end) (omega (arith, length-range file c.args.start c.args.end c.requires.order (c.requires.told files told)))
    (range_front file c.fill_from.new.to c.args.start 7 c.args.end c.requires.order (c.requires.told files told) size (c.in_ok-fill_from.ensures.call.bytes files told))

pub returns-in-End-clause-calls : goal.returns-in-End-clause-calls
returns-in-End-clause-calls g c =
    let size : length c.fill_from.new.to ≡ min 7 (c.args.end - c.args.start) = c.fill_from.auto.to ∙ length-take-le _ _ (omega arith) ∙ (omega arith) in
    scan_head _ _ _ c.args.start _ _ c.args.end c.in_ok-fill_from.ensures.call.calls (omega arith) (omega (arith, size))
    (λ files told r more s. omega (arith, head_room r _ more s, size))

pub returns-in-Cut-clause-calls : goal.returns-in-Cut-clause-calls
returns-in-Cut-clause-calls g c =
    let size : length c.fill_from.new.to ≡ min 7 (c.args.end - c.args.start) = c.fill_from.auto.to ∙ length-take-le _ _ (omega arith) ∙ (omega arith) in
    scan_head _ _ _ c.args.start _ _ c.args.end c.in_ok-fill_from.ensures.call.calls (omega arith) (omega (arith, size))
    (λ files told r more s. omega (arith, head_room r _ more s, size))

pub returns-in-Named-clause-calls : goal.returns-in-Named-clause-calls
returns-in-Named-clause-calls g c =
    let size : length c.fill_from.new.to ≡ min 7 (c.args.end - c.args.start) = c.fill_from.auto.to ∙ length-take-le _ _ (omega arith) ∙ (omega arith) in
    scan_trans _ _ _ _ _ _ (scan_head _ _ _ c.args.start _ _ c.args.end c.in_ok-fill_from.ensures.call.calls (omega arith) (omega (arith, size))
    (λ files told r more s. omega (arith, head_room r _ more s, size))) c.sized_from.ensures.calls

pub returns-in-End-clause-is : goal.returns-in-End-clause-is
returns-in-End-clause-is g c = λ files told.
    let file = bytes_of files c.args.name.now in
    let size : length c.fill_from.new.to ≡ min 7 (c.args.end - c.args.start) = c.fill_from.auto.to ∙ length-take-le _ _ (omega arith) ∙ (omega arith) in
    c.in-End.ensures.is (range_of file c.args.start c.args.end) (omega (arith, length-range file c.args.start c.args.end c.requires.order (c.requires.told files told)))
    (range_front file c.fill_from.new.to c.args.start 7 c.args.end c.requires.order (c.requires.told files told) size (c.in_ok-fill_from.ensures.call.bytes files told))

pub returns-in-Cut-clause-is : goal.returns-in-Cut-clause-is
returns-in-Cut-clause-is g c = λ files told.
    let file = bytes_of files c.args.name.now in
    let size : length c.fill_from.new.to ≡ min 7 (c.args.end - c.args.start) = c.fill_from.auto.to ∙ length-take-le _ _ (omega arith) ∙ (omega arith) in
    c.in-Cut.ensures.is (range_of file c.args.start c.args.end) (omega (arith, length-range file c.args.start c.args.end c.requires.order (c.requires.told files told)))
    (range_front file c.fill_from.new.to c.args.start 7 c.args.end c.requires.order (c.requires.told files told) size (c.in_ok-fill_from.ensures.call.bytes files told))
