use Rattle.std.proofs.Common.{◌∙◌, rules, tests}
use Rattle.std.proofs.lemmas.Iterator.{YieldsList-from_slice}
use Rattle.std.proofs.lemmas.Iterator.Consumers.{count_from_yields_List, YieldsList-from_filter, YieldsList-at}
use Rattle.xml_grammar.specs.declared.elements.Element.{out-Element}
use Rattle.rdf_forms.specs.Words.{is_rdf}
use Rattle.rdf_forms.specs.Parts.{name_of, element_at, passes}
use Rattle.rdf_forms.proofs.ChildLaws.{length-elements_named}
use Rattle.rdf_forms.proofs.parts.rdf_element_count.Goals as goal

pub returns : goal.returns
returns c =
    let children = (out-Element c.args.element.now).children in
    count_from_yields_List _ c.count.result c.count.ensures.ran
    (YieldsList-from_filter _ (λ k. passes (λ e. is_rdf c.args.local.now (name_of e)) (element_at k)) (YieldsList-at c.filter.ensures.source (YieldsList-from_slice children cc)) c.filter.ensures.closure (λ x b q k. search (rules, tests)))
    ∙ length-elements_named (λ e. is_rdf c.args.local.now (name_of e)) children
