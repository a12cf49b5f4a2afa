-- The forms of a property or item (ISO 16684-1, 7.4 to 7.9).
use Rattle.std.specs.Prelude.{ℕ, Bool, true, false, not, ◌&&◌, if◌then◌else◌, is_some, List, [], ◌∷◌, Option, Some, None, codes}
use Rattle.std.specs.Str.{bytes_eq}
use Rattle.xml_grammar.specs.declared.elements.Element.{Element}
use Rattle.rdf_forms.specs.Words.{is_rdf, is_lang, is_container}
use Rattle.rdf_forms.specs.Parts.{name_of, attribute_value, has_attribute, elements_of, has_blank_text}

pub data Form : Type 0 where
  -- `rdf:parseType="Resource"`: by its child elements, which are its members
  ByMembers : Form
  -- one child element, a container: by the container's items
  ByContainer : Element → Form
  -- any other one child element: by that node's members
  ByNode : Element → Form
  -- no child element, blank text, an attribute besides `xml:lang`: by its attributes
  ByAttributes : Form
  -- no child element otherwise: by its own text
  ByText : Form
  -- no form: child elements under another `rdf:parseType`, or two or more of them
  NoForm : Form

abbrev pub parse_type : Element → Option (List ℕ)
parse_type e = attribute_value (is_rdf (codes "parseType")) e

abbrev pub is_resource : Option (List ℕ) → Bool
is_resource None = false
is_resource (Some kind) = bytes_eq kind (codes "Resource")

-- an attribute besides `xml:lang`
abbrev pub has_other_attribute : Element → Bool
has_other_attribute e = has_attribute (λ n. not (is_lang n)) e

abbrev pub childless_form : Element → Form
childless_form e = if has_blank_text e && has_other_attribute e then ByAttributes else ByText

abbrev pub child_form : Element → Form
child_form c = if is_container (name_of c) then ByContainer c else ByNode c

-- the form by the child elements, without `rdf:parseType` and with another than `Resource`
abbrev pub form_by : Element → Bool → List Element → Form
form_by e typed [] = childless_form e
form_by e true (c ∷ cs) = NoForm
form_by e false (c ∷ []) = child_form c
form_by e false (c ∷ d ∷ cs) = NoForm

unfoldable pub form_of : Element → Form
form_of e = if is_resource (parse_type e) then ByMembers else form_by e (is_some (parse_type e)) (elements_of e)
