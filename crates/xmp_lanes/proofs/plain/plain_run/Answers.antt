use Rattle.std.proofs.Common.{◌≡◌, ◌+◌, ◌≤◌, not, length, drop, sym, ap, ◌∙◌, arith}
use Rattle.std.proofs.lemmas.List.{take_rest}
use Rattle.xmp_lanes.specs.Runs.{is_escaped, plain_run}
use Rattle.xmp_lanes.proofs.LoadRuns.{goes_on, stops_here}
use Rattle.xmp_lanes.proofs.plain.plain_run.Goals as goal

pub returns-then-run-lt-LANES-clause-run : goal.returns-then-run-lt-LANES-clause-run
returns-then-run-lt-LANES-clause-run c =
    let at = c.loop-at.at in
    let kept = c.loop-at.invariant in
    let room : at + 32 ≤ length c.args.bytes.now = omega (arith, kept.within, c.loop-at-test.true) in
    let stopped = stops_here (λ b. not (is_escaped c.args.place b)) c.args.bytes.now at c.plain_in_load-run.result room c.plain_in_load-run.ensures.run c.if-run-lt-LANES.true in
    sym (kept.passed ∙ ap (λ n. at + n) stopped)

pub loop-at-preserved : goal.loop-at-preserved
loop-at-preserved c =
    let at = c.loop-at.at in
    let kept = c.loop-at.invariant in
    let bytes = c.args.bytes.now in
    let place = c.args.place in
    let run = c.plain_in_load-run.result in
    let room : at + 32 ≤ length bytes = omega (arith, kept.within, c.loop-at-test.true) in
    let all : run ≡ 32 = omega (arith, c.plain_in_load-run.ensures.within, c.if-run-lt-LANES.false) in
    let more = goes_on (λ b. not (is_escaped place b)) bytes at run room c.plain_in_load-run.ensures.run all in
    let next : at + 32 ≡ at + run = omega (arith, all) in
    let sum : at + (32 + plain_run place (drop (at + 32) bytes)) ≡ (at + 32) + plain_run place (drop (at + 32) bytes) = omega arith in record {
      within = omega (arith, room, all);
      passed = kept.passed ∙ ap (λ n. at + n) more ∙ sum ∙ ap (λ n. n + plain_run place (drop n bytes)) next;
    }

pub returns-clause-run : goal.returns-clause-run
returns-clause-run c =
    let at = c.loop-at.at in
    let few = c.plain_few.ensures.run ∙ ap (plain_run c.args.place) (take_rest c.args.bytes.now at) in
    sym (c.loop-at.invariant.passed ∙ ap (λ n. at + n) (sym few))
