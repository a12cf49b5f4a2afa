use Rattle.std.proofs.Common.{◌+◌, ◌++◌, ap, ◌∙◌, arith}
use Rattle.std.specs.Prelude.{slice_range}
use Rattle.xmp_write.proofs.ShownRuns.{run_more, run_ended}
use Rattle.xmp_write.proofs.listing.push_shown.Goals as goal
use Rattle.xmp_write.proofs.listing.push_shown.Goals.{in-Some+in_ok-extend_from_slice+in_ok-extend_from_slice-2, in_default}

pub loop-at-preserved : goal.loop-at-preserved
loop-at-preserved c =
    let text = c.args.text.now in
    let front = c.args.out.now.items in
    let out = c.loop-at.out.items in
    let from = c.loop-at.from in
    let at = c.loop-at.at in
    let kept = c.loop-at.invariant in
    elim c.match-escape.branch [
      | in-Some+in_ok-extend_from_slice+in_ok-extend_from_slice-2 w ↦ record {
        within = omega (arith, w.from-is);
        put = ap (λ from. c.match-escape.out.items ++ slice_range text from (at + 1)) w.from-is
            ∙ ap (λ v. v.items ++ slice_range text (at + 1) (at + 1)) w.out-is
            ∙ run_ended text front out from at kept.within c.loop-at-test.true kept.put w.extend_from_slice.new.self.items w.extend_from_slice-in-Some.new.self.items w.in-Some.escape.now
            w.in-Some.ensures w.in_ok-extend_from_slice.ensures.items w.in_ok-extend_from_slice-2.ensures.items;
      }
      | in_default w ↦ record {
        within = omega (arith, w.from-is, kept.within);
        put = ap (λ from. c.match-escape.out.items ++ slice_range text from (at + 1)) w.from-is
            ∙ ap (λ v. v.items ++ slice_range text from (at + 1)) w.out-is
            ∙ run_more text front out from at kept.within c.loop-at-test.true kept.put w.in_default.ensures;
      }
    ]
