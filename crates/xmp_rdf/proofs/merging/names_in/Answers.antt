use Rattle.std.proofs.Common.{map, take, subst}
use Rattle.std.proofs.lemmas.List.{take_all}
use Rattle.xmp_tree.specs.Wf.{name_of}
use Rattle.rdf_forms.specs.Entering.{Holds}
use Rattle.xmp_rdf.proofs.Twice.{names_more, holds_more}
use Rattle.xmp_rdf.proofs.merging.names_in.Goals as goal

pub loop-prop-preserved : goal.loop-prop-preserved
loop-prop-preserved c =
    let props = c.args.props.now in
    let at = c.loop-prop.prop-index in
    let p = c.prop-item.result in
    subst (Holds c.enter.new.names) (names_more props at p c.loop-prop-test.true c.prop-item.is)
    (holds_more (map name_of (take at props)) c.loop-prop.names c.enter.new.names (name_of p) c.loop-prop.invariant c.in_ok-enter.ensures.holds)

pub returns : goal.returns
returns c =
    subst (λ props. Holds c.loop-prop.names (map name_of props)) (take_all c.loop-prop.prop-index c.args.props.now c.loop-prop-test.false) c.loop-prop.invariant
