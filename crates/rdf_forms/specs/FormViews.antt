-- What values of the code stand for, by what their references point at.
use Rattle.std.specs.Prelude.{ℕ, Bool, true, false, List, [], Option, Some, None}
use Rattle.std.specs.Borrow.{Bor}
use Rattle.rdf_forms.specs.declared.forms.Form.{Form as FormView}
use Rattle.rdf_forms.specs.declared.forms.Form.TheVariants as views
use Rattle.rdf_forms.specs.Forms.{Form, ByMembers, ByContainer, ByNode, ByAttributes, ByText, NoForm}

abbrev pub form_in : FormView → Form
form_in views.ByMembers = ByMembers
form_in (views.ByContainer c) = ByContainer c.now
form_in (views.ByNode n) = ByNode n.now
form_in views.ByAttributes = ByAttributes
form_in views.ByText = ByText
form_in views.NoForm = NoForm

-- is it the form by attributes
abbrev pub is_by_attributes : Form → Bool
is_by_attributes ByAttributes = true
is_by_attributes form = false

-- the text of an about, which is empty where there is none
abbrev pub about_in : Option (Bor (List ℕ)) → List ℕ
about_in None = []
about_in (Some text) = text.now
