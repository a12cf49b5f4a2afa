use Rattle.std.proofs.Common.{◌∙◌, ap}
use Rattle.std.specs.Prelude.{option_and_then, slice_get}
use Rattle.rdf_forms.specs.Parts.{element_at, elements_in}
use Rattle.rdf_forms.proofs.ChildLaws.{first-elements}
use Rattle.rdf_forms.proofs.parts.first_element.Goals as goal

pub returns-in-Some : goal.returns-in-Some
returns-in-Some c =
    c.as_element.ensures ∙ ap (option_and_then element_at) c.in-Some.ensures ∙ first-elements c.as_slice.result.now
    ∙ ap (λ cs. slice_get (elements_in cs) 0) c.as_slice.ensures

pub returns-in-None : goal.returns-in-None
returns-in-None c =
    ap (option_and_then element_at) c.in-None.ensures ∙ first-elements c.as_slice.result.now ∙ ap (λ cs. slice_get (elements_in cs) 0) c.as_slice.ensures
