use Rattle.std.proofs.Common.{arith, ap, ◌∙◌, ◌≡◌, ◌≤◌, ◌+◌, ◌-◌, ℕ, length, take, drop}
use Rattle.std.proofs.lemmas.List.{length-take-le, length-drop}
use Rattle.xmp_files.proofs.Emits.{put_none, put_len, put_known, put_more, put_failed, put_all}
use Rattle.xmp_files.proofs.emitting.put_pieces.Goals as goal

pub loop-done-init : goal.loop-done-init
loop-done-init g c = record { within = omega arith; put = put_none _ _ _ c.requires.target }

pub append-requires-clause-target : goal.append-requires-clause-target
append-requires-clause-target g c = put_known _ _ _ _ _ c.loop-done.invariant.put

pub append-requires-clause-at_end : goal.append-requires-clause-at_end
append-requires-clause-at_end g c = let len = put_len _ _ _ _ _ c.loop-done.invariant.put in omega (arith, len, c.requires.at_end)

pub returns-in_err-append : goal.returns-in_err-append
returns-in_err-append g c =
    let past : c.loop-done.done + c.min-count.result - c.loop-done.done ≡ c.min-count.result = omega arith in
    let room : c.min-count.result ≤ length c.args.bytes.now - c.loop-done.done = omega arith in
    record {
      call = put_failed _ _ _ _ _ c.loop-done.invariant.put _ c.min-count.result _ (ap (λ (n : ℕ). take n (drop c.loop-done.done c.args.bytes.now)) past)
          (length-take-le _ _ (omega (arith, length-drop c.loop-done.done c.args.bytes.now)) ∙ past) c.in_err-append.field-0.0 _ c.in_err-append.ensures.call (omega arith) (omega arith)
          c.from_residual.ensures.0;
    }

pub loop-done-preserved : goal.loop-done-preserved
loop-done-preserved g c =
    let past : c.loop-done.done + c.min-count.result - c.loop-done.done ≡ c.min-count.result = omega arith in
    let room : c.min-count.result ≤ length c.args.bytes.now - c.loop-done.done = omega arith in
    record {
      within = omega arith;
      put = put_more _ _ _ _ _ c.loop-done.invariant.put _ c.min-count.result _ (ap (λ (n : ℕ). take n (drop c.loop-done.done c.args.bytes.now)) past)
          (length-take-le _ _ (omega (arith, length-drop c.loop-done.done c.args.bytes.now)) ∙ past) c.in_ok-append.ensures.call;
    }

pub returns : goal.returns
returns g c = record { call = put_all _ _ _ _ _ c.loop-done.invariant.put c.loop-done-test.false c.loop-done.invariant.within }
