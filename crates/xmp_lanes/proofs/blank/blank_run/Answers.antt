use Rattle.std.proofs.Common.{◌≡◌, ◌+◌, ◌≤◌, length, drop, sym, ap, ◌∙◌, arith}
use Rattle.std.proofs.lemmas.List.{take_rest}
use Rattle.xmp_values.specs.Characters.{is_blank}
use Rattle.xmp_lanes.specs.Runs.{blank_run}
use Rattle.xmp_lanes.proofs.LoadRuns.{run_bound, goes_on, stops_here}
use Rattle.xmp_lanes.proofs.blank.blank_run.Goals as goal

pub returns-then-run-lt-LANES-clause-run : goal.returns-then-run-lt-LANES-clause-run
returns-then-run-lt-LANES-clause-run c =
    let at = c.loop-at.at in
    let kept = c.loop-at.invariant in
    let room : at + 32 ≤ length c.args.bytes.now = omega (arith, kept.within, c.loop-at-test.true) in
    let stopped = stops_here is_blank c.args.bytes.now at c.blank_in_load-run.result room c.blank_in_load-run.ensures c.if-run-lt-LANES.true in
    sym (kept.passed ∙ ap (λ n. at + n) stopped)

pub loop-at-preserved : goal.loop-at-preserved
loop-at-preserved c =
    let at = c.loop-at.at in
    let kept = c.loop-at.invariant in
    let bytes = c.args.bytes.now in
    let run = c.blank_in_load-run.result in
    let room : at + 32 ≤ length bytes = omega (arith, kept.within, c.loop-at-test.true) in
    let bound = run_bound is_blank bytes at run room c.blank_in_load-run.ensures in
    let all : run ≡ 32 = omega (arith, bound, c.if-run-lt-LANES.false) in
    let more = goes_on is_blank bytes at run room c.blank_in_load-run.ensures all in
    let sum : at + (32 + blank_run (drop (at + 32) bytes)) ≡ (at + 32) + blank_run (drop (at + 32) bytes) = omega arith in record {
      within = room;
      passed = kept.passed ∙ ap (λ n. at + n) more ∙ sum;
    }

pub returns-clause-run : goal.returns-clause-run
returns-clause-run c =
    let at = c.loop-at.at in
    let few = c.blank_few.ensures.run ∙ ap blank_run (take_rest c.args.bytes.now at) in
    sym (c.loop-at.invariant.passed ∙ ap (λ n. at + n) (sym few))
