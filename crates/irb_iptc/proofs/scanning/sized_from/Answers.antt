use Rattle.std.proofs.Common.{◌≡◌, ◌∙◌, ap, ◌+◌, ℕ, length, take, drop, arith}
use Rattle.xmp_base.specs.Device.{bytes_of}
use Rattle.irb_iptc.specs.Scanning.{range_of}
use Rattle.irb_iptc.proofs.Pieces.{length-range, range_piece}
use Rattle.irb_iptc.proofs.Scanned.{head_named, scan_head}
use Rattle.irb_iptc.proofs.scanning.sized_from.Goals as goal

pub returns-in_err-fill_from-clause-calls : goal.returns-in_err-fill_from-clause-calls
returns-in_err-fill_from-clause-calls g c =
    let size : length c.fill_from.new.to ≡ 4 = c.fill_from.auto.to in
    scan_head _ _ _ c.args.start _ _ c.args.end c.in_err-fill_from.ensures.call.calls (omega arith) (omega (arith, size))
    (λ files told r more s. let e = head_named _ _ _ (c.requires.named files told) r more s in omega (arith, e, size))

pub returns-in-Some-clause-calls : goal.returns-in-Some-clause-calls
returns-in-Some-clause-calls g c =
    let size : length c.fill_from.new.to ≡ 4 = c.fill_from.auto.to in
    scan_head _ _ _ c.args.start _ _ c.args.end c.in_ok-fill_from.ensures.call.calls (omega arith) (omega (arith, size))
    (λ files told r more s. let e = head_named _ _ _ (c.requires.named files told) r more s in omega (arith, e, size))

pub returns-in-None-clause-calls : goal.returns-in-None-clause-calls
returns-in-None-clause-calls g c =
    let size : length c.fill_from.new.to ≡ 4 = c.fill_from.auto.to in
    scan_head _ _ _ c.args.start _ _ c.args.end c.in_ok-fill_from.ensures.call.calls (omega arith) (omega (arith, size))
    (λ files told r more s. let e = head_named _ _ _ (c.requires.named files told) r more s in omega (arith, e, size))

pub returns-in-Some-clause-is : goal.returns-in-Some-clause-is
returns-in-Some-clause-is g c = λ files told.
    let file = bytes_of files c.args.name.now in
    let size : length c.fill_from.new.to ≡ 4 = c.fill_from.auto.to in
    c.in-Some.ensures.is (range_of file c.args.start c.args.end) (length-range file c.args.start c.args.end (omega arith) (c.requires.told files told)) (c.requires.named files told)
    (c.in_ok-fill_from.ensures.call.bytes files told ∙ ap (λ (k : ℕ). take k (drop (c.args.start + c.args.size_at) file)) size
    ∙ range_piece file c.args.start c.args.size_at 4 c.args.end (omega arith))

pub returns-in-None-clause-is : goal.returns-in-None-clause-is
returns-in-None-clause-is g c = λ files told.
    let file = bytes_of files c.args.name.now in
    let size : length c.fill_from.new.to ≡ 4 = c.fill_from.auto.to in
    c.in-None.ensures.is (range_of file c.args.start c.args.end) (length-range file c.args.start c.args.end (omega arith) (c.requires.told files told)) (c.requires.named files told)
    (c.in_ok-fill_from.ensures.call.bytes files told ∙ ap (λ (k : ℕ). take k (drop (c.args.start + c.args.size_at) file)) size
    ∙ range_piece file c.args.start c.args.size_at 4 c.args.end (omega arith))
