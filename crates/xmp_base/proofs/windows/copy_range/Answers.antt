use Rattle.std.proofs.Common.{arith, ap, sym, ◌∙◌, ◌≡◌, ◌≤◌, ◌<◌, ◌+◌, ℕ, length}
use Rattle.std.proofs.lemmas.List.{take-append-le, length-take-le}
use Rattle.xmp_base.proofs.Ends.{copied_none, copied_known, copied_len, copied_all, copied_stop, copied_more, copied_failed, read_to, read_end}
use Rattle.xmp_base.proofs.windows.copy_range.Goals as goal

pub loop-done-init : goal.loop-done-init
loop-done-init g c = record { within = omega arith; copied = copied_none _ _ _ _ _ _ c.requires.target }

pub read_at-requires : goal.read_at-requires
read_at-requires g c = copied_known _ _ _ _ _ _ _ _ c.requires.apart c.loop-done.invariant.copied c.requires.source

pub returns-in_err-count : goal.returns-in_err-count
returns-in_err-count g c =
    let inv = c.loop-done.invariant in
    record { call = copied_stop _ _ _ _ _ _ _ _ c.requires.apart inv.copied _ _ c.in_err-count.field-0.0 _ c.in_err-count.ensures.call inv.within c.from_residual.ensures.0 }

pub append-requires-clause-target : goal.append-requires-clause-target
append-requires-clause-target g c = read_to _ _ _ _ _ _ _ _ c.requires.apart c.loop-done.invariant.copied _ _ _ c.in_ok-count.ensures.call

pub append-requires-clause-at_end : goal.append-requires-clause-at_end
append-requires-clause-at_end g c =
    ap (λ (n : ℕ). n + c.loop-done.done) c.requires.at_end ∙ sym (read_end _ _ _ _ _ _ _ _ c.requires.apart c.loop-done.invariant.copied _ _ _ c.in_ok-count.ensures.call)

pub returns-in_err-append : goal.returns-in_err-append
returns-in_err-append g c =
    let inv = c.loop-done.invariant in
    let call = c.in_ok-count.ensures.call in
    let room : c.min-most.result ≤ length c.loop-done.buffer = omega arith in
    let size : length c.read_at.new.to ≡ c.min-most.result = omega (arith, c.read_at.auto.to, length-take-le c.min-most.result c.loop-done.buffer room) in
    record {
      call = copied_failed _ _ _ _ _ _ _ _ c.requires.apart inv.copied _ _ _ _ _ call (take-append-le _ _ _ call.most.0) (omega (arith, call.most.0, size))
          c.in_err-append.field-0.0 _ c.in_err-append.ensures.call (omega (arith, call.most.0, size, c.loop-done.auto.buffer)) c.from_residual-in_err-append.ensures.0;
    }

pub loop-done-smaller : goal.loop-done-smaller
loop-done-smaller g c =
    let inv = c.loop-done.invariant in
    let call = c.in_ok-count.ensures.call in
    let room : c.min-most.result ≤ length c.loop-done.buffer = omega arith in
    let size : length c.read_at.new.to ≡ c.min-most.result = omega (arith, c.read_at.auto.to, length-take-le c.min-most.result c.loop-done.buffer room) in
    let same = copied_len _ _ _ _ _ _ _ _ c.requires.apart inv.copied in
    let some : 0 < c.in_ok-count.count = call.least (omega (arith, same)) (omega (arith, size, c.loop-done.auto.buffer)) in
    omega (arith, some)

pub loop-done-preserved : goal.loop-done-preserved
loop-done-preserved g c =
    let inv = c.loop-done.invariant in
    let call = c.in_ok-count.ensures.call in
    let room : c.min-most.result ≤ length c.loop-done.buffer = omega arith in
    let size : length c.read_at.new.to ≡ c.min-most.result = omega (arith, c.read_at.auto.to, length-take-le c.min-most.result c.loop-done.buffer room) in
    let within : c.loop-done.done + c.in_ok-count.count ≤ c.args.len = omega (arith, call.most.0, size) in
    record {
      within = within;
      copied = copied_more _ _ _ _ _ _ _ _ c.requires.apart inv.copied _ _ _ _ _ call (take-append-le _ _ _ call.most.0) within c.in_ok-append.ensures.call;
    }

pub returns : goal.returns
returns g c = record { call = copied_all _ _ _ _ _ _ _ _ c.requires.apart c.loop-done.invariant.copied c.loop-done-test.false c.loop-done.invariant.within }
