use Rattle.std.proofs.Common.{◌&&◌, ◌∙◌, sym, rules, tests}
use Rattle.std.proofs.lemmas.Iterator.{YieldsList-from_slice}
use Rattle.std.proofs.lemmas.Iterator.Search.{any_from_yields_List}
use Rattle.xml_grammar.specs.declared.elements.Element.{out-Element}
use Rattle.rdf_forms.specs.Words.{is_lang}
use Rattle.rdf_forms.specs.Parts.{element_at, passes, elements_of, has_attribute}
use Rattle.rdf_forms.specs.FormRules.{is_value_element}
use Rattle.rdf_forms.proofs.ChildLaws.{list_any-elements, list_any-filter}
use Rattle.rdf_forms.proofs.member_rules.has_lang_value.Goals as goal

pub returns : goal.returns
returns c =
    let children = (out-Element c.args.element.now).children in
    any_from_yields_List (λ k. passes (λ e. is_value_element e && has_attribute is_lang e) (element_at k)) _ _ c.any.result c.any.ensures.ran (YieldsList-from_slice children cc) (λ x b q k. search (rules, tests))
    ∙ list_any-elements (λ e. is_value_element e && has_attribute is_lang e) children
    ∙ sym (list_any-filter is_value_element (has_attribute is_lang) (elements_of c.args.element.now))
