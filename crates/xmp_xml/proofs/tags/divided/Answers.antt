use Rattle.std.proofs.Common.{ap, ◌∙◌}
use Rattle.xmp_xml.specs.declared.tags.Parts.{Parts}
use Rattle.xmp_xml.specs.Tagging.{with_attribute}
use Rattle.xmp_xml.proofs.Tagging.{divided_next}
use Rattle.xmp_xml.proofs.tags.divided.Goals as goal

pub loop-attribute-preserved : goal.loop-attribute-preserved
loop-attribute-preserved c = c.in_ok-add_attribute.ensures ∙ ap (λ (p : Parts). with_attribute p c.in-Some.attribute) c.loop-attribute.invariant ∙ divided_next c.loop-attribute.yielded c.in-Some.attribute
