use Rattle.std.proofs.Common.{◌∙◌, ◌+◌, take, ap, sym, subst}
use Rattle.xmp_values.specs.Texts.{with_text}
use Rattle.xmp_edit.specs.ScriptParts.{HasNamespaces}
use Rattle.xmp_edit.proofs.NewHints.{seen_more, hints_more}
use Rattle.xmp_edit.proofs.reading.namespaces.Goals as goal

pub loop-hint-preserved : goal.loop-hint-preserved
loop-hint-preserved c =
    let hint = c.hint-item.result in
    let known = take c.loop-hint.hint-index c.args.hints.now in
    subst (λ s. HasNamespaces s (take (c.loop-hint.hint-index + 1) c.args.hints.now)) (sym (c.in_ok-insert.ensures.ok ∙ ap (with_text c.loop-hint.seen) c.as_slice.ensures))
    (subst (HasNamespaces (with_text c.loop-hint.seen hint.space)) (sym (hints_more c.args.hints.now c.loop-hint.hint-index hint c.loop-hint-test.true c.hint-item.is))
    (seen_more c.loop-hint.seen known hint c.loop-hint.invariant))
