-- What contracts see of a document.
use mir.Syntax.{named}
use Rattle.std.specs.Prelude.{List, [], refl}
use Rattle.std.specs.Coded.{Coded, code_by, coded×, coded_list}
use Rattle.xmp_values.specs.declared.hints.Hint.{Hint}
use Rattle.xmp_values.specs.contracts.hints.Hint as the_hint
use Rattle.xml_grammar.specs.declared.elements.Element.{Element}
use Rattle.xml_grammar.specs.contracts.elements.Element as the_element

-- a root, and the first declaration of each namespace
pub record Document : Type 0 where
  pub root : Element
  pub declared : List Hint

abbrev pub document_code : Coded Document
document_code =
    code_by (Element × List Hint) (coded× (the_element.the_row record { mir = named 1; lft = [] }).coded (coded_list the_hint.the_row.coded))
    (λ d. (d.root, d.declared)) (λ p. record { root = p.0; declared = p.1 }) (λ _. refl)
