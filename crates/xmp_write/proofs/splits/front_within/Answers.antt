use Rattle.std.proofs.Common.{◌≡◌, ◌+◌, ◌-◌, ◌^◌, ◌<◌, ◌≤◌, length, get_or, min, List, sym, ap, subst, ◌∙◌, arith}
use Rattle.xmp_tree.specs.declared.nested.Member.{Member}
use Rattle.xmp_tree.specs.Parts.{Parts}
use Rattle.xmp_write.specs.Grown.{IsGrown}
use Rattle.xmp_write.specs.Splits.{front_len, front_spaces}
use Rattle.xmp_write.proofs.FrontLengths.{whole}
use Rattle.xmp_write.proofs.GrownPrefixes.{grown_spaces, counted_start, more_grown, in_order, counted_more}
use Rattle.xmp_write.proofs.SplitSteps.{stop_len, fits_not, fits_so}
use Rattle.xmp_write.proofs.splits.front_within.Goals as goal

pub returns-then-not-fits : goal.returns-then-not-fits
returns-then-not-fits c =
    let t = c.args.tree.now in
    let hints = c.args.hints.now in
    let counted = counted_start hints t c.in_ok-grown.grown c.len.result c.front_start-len.result c.in_ok-grown.ensures c.len.ensures c.front_start-len.ensures in (
      fits_not (front_len (whole t hints) t 0) c.front_start-len.result c.args.room c.fits.result counted c.requires c.fits.ensures c.if-not-fits.true,
      stop_len (front_len (whole t hints) t 0) c.front_start-len.result c.saturating_add.result counted c.saturating_add.ensures,
    )

pub loop-count-init : goal.loop-count-init
loop-count-init c =
    let t = c.args.tree.now in
    let hints = c.args.hints.now in
    let counted = counted_start hints t c.in_ok-grown.grown c.len.result c.front_start-len.result c.in_ok-grown.ensures c.len.ensures c.front_start-len.ensures in record {
      grown = c.in_ok-grown.ensures;
      len = counted;
      fits = (fits_so (front_len (whole t hints) t 0) c.front_start-len.result c.args.room c.fits.result counted c.requires c.fits.ensures c.if-not-fits.false).0;
    }

pub with_member-requires : goal.with_member-requires
with_member-requires c =
    let t = c.args.tree.now in
    let hints = c.args.hints.now in
    let grown = c.loop-count.invariant.grown in
    subst (λ spaces. IsGrown hints spaces c.loop-count.grown) (sym (grown_spaces hints (front_spaces t.props c.loop-count.count) c.loop-count.grown grown)) grown

pub front_more-next-requires-clause-order : goal.front_more-next-requires-clause-order
front_more-next-requires-clause-order c =
    let t = c.args.tree.now in
    let props = c.as_slice-props.ensures ∙ ap (λ (t : Parts). t.props) c.tree.view_is in
    let member = c.index-props-count.result in
    let k = c.loop-count.count in
    let within : k < length t.props = omega (arith, c.loop-count-test.true, ap length props) in
    let here = c.index-props-count.is ∙ ap (λ (ms : List Member). get_or ms k member) props in
    in_order c.args.hints.now t k member c.loop-count.grown c.in_ok-grown-2.grown c.len-used.result c.len-in-loop-count.result
    c.loop-count.invariant.grown c.in_ok-grown-2.ensures c.len-used.ensures c.len-in-loop-count.ensures within here

pub returns-then-not-fits-2 : goal.returns-then-not-fits-2
returns-then-not-fits-2 c =
    let t = c.args.tree.now in
    let props = c.as_slice-props.ensures ∙ ap (λ (t : Parts). t.props) c.tree.view_is in
    let member = c.index-props-count.result in
    let k = c.loop-count.count in
    let within : k < length t.props = omega (arith, c.loop-count-test.true, ap length props) in
    let here = c.index-props-count.is ∙ ap (λ (ms : List Member). get_or ms k member) props in
    let ps = whole t c.args.hints.now in
    let kept = c.loop-count.invariant in
    let more = counted_more c.args.hints.now t k member c.loop-count.grown c.in_ok-grown-2.grown c.len-used.result c.len-in-loop-count.result
    kept.grown c.in_ok-grown-2.ensures c.len-used.ensures c.len-in-loop-count.ensures within here c.loop-count.len c.front_more-next.result kept.len c.front_more-next.ensures in
    let short : c.loop-count.len ≡ front_len ps t k = omega (arith, kept.len, kept.fits, c.requires) in record {
      within = omega (arith, within);
      len_is = short;
      fits = kept.fits;
      last = λ _. fits_not (front_len ps t (k + 1)) c.front_more-next.result c.args.room c.fits-in-loop-count.result more c.requires c.fits-in-loop-count.ensures c.if-not-fits-2.true;
    }

pub loop-count-preserved : goal.loop-count-preserved
loop-count-preserved c =
    let t = c.args.tree.now in
    let props = c.as_slice-props.ensures ∙ ap (λ (t : Parts). t.props) c.tree.view_is in
    let member = c.index-props-count.result in
    let k = c.loop-count.count in
    let within : k < length t.props = omega (arith, c.loop-count-test.true, ap length props) in
    let here = c.index-props-count.is ∙ ap (λ (ms : List Member). get_or ms k member) props in
    let ps = whole t c.args.hints.now in
    let kept = c.loop-count.invariant in
    let new = c.in_ok-grown-2.grown in
    let more = counted_more c.args.hints.now t k member c.loop-count.grown new c.len-used.result c.len-in-loop-count.result
    kept.grown c.in_ok-grown-2.ensures c.len-used.ensures c.len-in-loop-count.ensures within here c.loop-count.len c.front_more-next.result kept.len c.front_more-next.ensures in record {
      grown = more_grown c.args.hints.now t k member c.loop-count.grown new c.len-used.result c.len-in-loop-count.result
          kept.grown c.in_ok-grown-2.ensures c.len-used.ensures c.len-in-loop-count.ensures within here;
      len = more;
      fits = (fits_so (front_len ps t (k + 1)) c.front_more-next.result c.args.room c.fits-in-loop-count.result more c.requires c.fits-in-loop-count.ensures c.if-not-fits-2.false).0;
    }

pub returns : goal.returns
returns c =
    let t = c.args.tree.now in
    let ps = whole t c.args.hints.now in
    let kept = c.loop-count.invariant in
    let props = ap length (c.as_slice-props.ensures ∙ ap (λ (t : Parts). t.props) c.tree.view_is) in
    let all : c.loop-count.count ≡ length c.as_slice-props.result.now = omega (arith, c.loop-count-test.false, c.loop-count.auto.count-end) in
    let fits = subst (λ n. 73 + front_len ps t n ≤ c.args.room) all kept.fits in
    let counted = kept.len ∙ ap (λ n. min (front_len ps t n) (2 ^ 64 - 1)) all in record {
      within = omega (arith, props);
      len_is = omega (arith, counted, fits, c.requires);
      fits = fits;
      last = λ more. absurd (omega (arith, more, props));
    }
