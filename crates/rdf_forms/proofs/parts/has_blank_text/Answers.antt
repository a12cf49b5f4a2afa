use Rattle.std.proofs.Common.{◌∙◌, rules, tests}
use Rattle.std.specs.List.{list_all}
use Rattle.std.proofs.lemmas.Iterator.{YieldsList-from_slice}
use Rattle.std.proofs.lemmas.Iterator.Search.{all_from_yields_List}
use Rattle.xmp_values.specs.Characters.{is_blank}
use Rattle.xml_grammar.specs.declared.elements.Element.{out-Element}
use Rattle.rdf_forms.specs.Parts.{text_at}
use Rattle.rdf_forms.proofs.ChildLaws.{list_all-flat_map}
use Rattle.rdf_forms.proofs.parts.has_blank_text.Goals as goal

pub returns : goal.returns
returns c =
    let children = (out-Element c.args.element.now).children in
    all_from_yields_List (λ k. list_all is_blank (text_at k)) _ _ c.all.result c.all.ensures.ran (YieldsList-from_slice children cc) (λ x b q k. search (rules, tests))
    ∙ list_all-flat_map is_blank text_at children
