use Rattle.std.proofs.Common.{◌≡◌, ◌+◌, ◌≤◌, length, drop, sym, ap, ◌∙◌, arith}
use Rattle.xmp_lanes.specs.Runs.{same_run}
use Rattle.xmp_lanes.proofs.LoadRuns.{pair_bound, pair_goes_on, pair_stops}
use Rattle.xmp_lanes.proofs.same.same_run.Goals as goal

pub returns-then-run-lt-LANES : goal.returns-then-run-lt-LANES
returns-then-run-lt-LANES c =
    let at = c.loop-at.at in
    let kept = c.loop-at.invariant in
    let a_room : at + 32 ≤ length c.args.a.now = omega (arith, kept.within, c.loop-at-test.true, c.min-len.ensures) in
    let b_room : at + 32 ≤ length c.args.b.now = omega (arith, kept.within, c.loop-at-test.true, c.min-len.ensures) in
    let stopped = pair_stops c.args.a.now c.args.b.now at c.same_in_load-run.result a_room b_room c.same_in_load-run.ensures c.if-run-lt-LANES.true in
    sym (kept.passed ∙ ap (λ n. at + n) stopped)

pub loop-at-preserved : goal.loop-at-preserved
loop-at-preserved c =
    let at = c.loop-at.at in
    let kept = c.loop-at.invariant in
    let a = c.args.a.now in
    let b = c.args.b.now in
    let a_room : at + 32 ≤ length a = omega (arith, kept.within, c.loop-at-test.true, c.min-len.ensures) in
    let b_room : at + 32 ≤ length b = omega (arith, kept.within, c.loop-at-test.true, c.min-len.ensures) in
    let bound = pair_bound a b at c.same_in_load-run.result a_room b_room c.same_in_load-run.ensures in
    let all : c.same_in_load-run.result ≡ 32 = omega (arith, bound, c.if-run-lt-LANES.false) in
    let more = pair_goes_on a b at c.same_in_load-run.result a_room b_room c.same_in_load-run.ensures all in
    let sum : at + (32 + same_run (drop (at + 32) a) (drop (at + 32) b)) ≡ (at + 32) + same_run (drop (at + 32) a) (drop (at + 32) b) = omega arith in record {
      within = omega (arith, kept.within, c.loop-at-test.true);
      passed = kept.passed ∙ ap (λ n. at + n) more ∙ sum;
    }
