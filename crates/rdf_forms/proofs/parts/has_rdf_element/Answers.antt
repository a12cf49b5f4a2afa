use Rattle.std.proofs.Common.{◌∙◌, rules, tests}
use Rattle.std.proofs.lemmas.Iterator.{YieldsList-from_slice}
use Rattle.std.proofs.lemmas.Iterator.Search.{any_from_yields_List}
use Rattle.xml_grammar.specs.declared.elements.Element.{out-Element}
use Rattle.rdf_forms.specs.Words.{is_rdf}
use Rattle.rdf_forms.specs.Parts.{name_of, element_at, passes}
use Rattle.rdf_forms.proofs.ChildLaws.{list_any-elements}
use Rattle.rdf_forms.proofs.parts.has_rdf_element.Goals as goal

pub returns : goal.returns
returns c =
    let children = (out-Element c.args.element.now).children in
    any_from_yields_List (λ k. passes (λ e. is_rdf c.args.local.now (name_of e)) (element_at k)) _ _ c.any.result c.any.ensures.ran (YieldsList-from_slice children cc) (λ x b q k. search (rules, tests))
    ∙ list_any-elements (λ e. is_rdf c.args.local.now (name_of e)) children
