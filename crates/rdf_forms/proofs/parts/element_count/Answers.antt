use Rattle.std.proofs.Common.{◌∙◌, rules, tests}
use Rattle.std.specs.Prelude.{is_some}
use Rattle.std.proofs.lemmas.Iterator.{YieldsList-from_slice}
use Rattle.std.proofs.lemmas.Iterator.Consumers.{count_from_yields_List, YieldsList-from_filter, YieldsList-at}
use Rattle.xml_grammar.specs.declared.elements.Element.{out-Element}
use Rattle.rdf_forms.specs.Parts.{element_at}
use Rattle.rdf_forms.proofs.ChildLaws.{length-elements}
use Rattle.rdf_forms.proofs.parts.element_count.Goals as goal

pub returns : goal.returns
returns c =
    let children = (out-Element c.args.element.now).children in
    count_from_yields_List _ c.count.result c.count.ensures.ran
    (YieldsList-from_filter _ (λ k. is_some (element_at k)) (YieldsList-at c.filter.ensures.source (YieldsList-from_slice children cc)) c.filter.ensures.closure (λ x b q k. search (rules, tests)))
    ∙ length-elements children
