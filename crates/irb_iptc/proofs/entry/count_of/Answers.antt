use Rattle.std.proofs.Common.{◌≡◌, inl, inr, ℕ, ◌+◌, ◌-◌, ◌<◌, suc, get_or, length, take, subst, ap, ◌∙◌, arith}
use Rattle.std.proofs.lemmas.List.{take_rest}
use Rattle.byteorder.specs.Endian.{big_number}
use Rattle.irb_iptc.specs.Datasets.{Counts}
use Rattle.irb_iptc.proofs.Counting.{counted, too_wide, too_short, counted_wide}
use Rattle.irb_iptc.proofs.entry.count_of.Goals as goal
use Rattle.irb_iptc.proofs.entry.count_of.Goals.{then-width-eq0-via-then-width-eq0, then-width-eq0-via-else-width-eq0+then-width-gt4}

pub returns-then-count-lt32768-clause-is : goal.returns-then-count-lt32768-clause-is
returns-then-count-lt32768-clause-is c = counted c.args.bytes.now c.read_u16-count.result c.requires c.read_u16-count.ensures (let low : get_or c.args.bytes.now 1 0 < 256 = omega (arith, c.type_inv.bytes 1) in low) c.if-count-lt32768.true

pub returns-then-width-eq0-clause-is : goal.returns-then-width-eq0-clause-is
returns-then-width-eq0-clause-is c =
    too_wide c.args.bytes.now c.read_u16-count.result c.requires c.read_u16-count.ensures (let low : get_or c.args.bytes.now 1 0 < 256 = omega (arith, c.type_inv.bytes 1) in low) c.if-count-lt32768.false
    (elim c.then-width-eq0.branch [
      | then-width-eq0-via-then-width-eq0 w ↦ inl (omega arith)
      | then-width-eq0-via-else-width-eq0+then-width-gt4 w ↦ inr (omega arith)
    ])

pub returns-then-octets-width-clause-is : goal.returns-then-octets-width-clause-is
returns-then-octets-width-clause-is c =
    too_short c.args.bytes.now c.read_u16-count.result c.requires c.read_u16-count.ensures (let low : get_or c.args.bytes.now 1 0 < 256 = omega (arith, c.type_inv.bytes 1) in low) (omega arith) (omega arith)
    (omega (arith, ap length (take_rest c.args.bytes.now 2)))

pub returns-clause-is : goal.returns-clause-is
returns-clause-is c =
    let w = c.read_u16-count.result - 32768 in
    let same : suc (suc w) ≡ 2 + w = omega arith in
    subst (λ (k : ℕ). Counts (take k c.args.bytes.now) c.read_uint.result) same
    (counted_wide c.args.bytes.now c.read_u16-count.result w c.read_uint.result c.requires c.read_u16-count.ensures (let low : get_or c.args.bytes.now 1 0 < 256 = omega (arith, c.type_inv.bytes 1) in low) (omega arith) (omega arith) (omega arith)
    (omega (arith, ap length (take_rest c.args.bytes.now 2))) (c.read_uint.ensures ∙ ap (big_number w) (take_rest c.args.bytes.now 2)))
