use Rattle.std.proofs.Common.{sym, ◌∙◌}
use Rattle.std.specs.List.{list_any}
use Rattle.xmp_xml.specs.Tagging.{lacks_one}
use Rattle.xmp_xml.proofs.Scans.{any_next, any_here, any_not}
use Rattle.xmp_xml.proofs.tags.any_lacks.Goals as goal

pub loop-attribute-preserved : goal.loop-attribute-preserved
loop-attribute-preserved c =
    let p = lacks_one c.args.scope.now in
    any_next p c.args.plain.now (list_any p c.args.plain.now) c.loop-attribute.attribute-index c.loop-attribute.invariant c.attribute-item.result c.loop-attribute-test.true c.attribute-item.is (sym c.lacks.ensures ∙ c.if-lacks.false)

pub returns-then-lacks : goal.returns-then-lacks
returns-then-lacks c =
    let p = lacks_one c.args.scope.now in
    any_here p c.args.plain.now (list_any p c.args.plain.now) c.loop-attribute.attribute-index c.loop-attribute.invariant c.attribute-item.result c.loop-attribute-test.true c.attribute-item.is (sym c.lacks.ensures ∙ c.if-lacks.true)

pub returns : goal.returns
returns c =
    let p = lacks_one c.args.scope.now in
    any_not p c.args.plain.now (list_any p c.args.plain.now) c.loop-attribute.attribute-index c.loop-attribute.invariant c.loop-attribute-test.false
