-- Which namespaces the written text of a tree uses, in the order of the text (ISO 16684-1, 7.4 to 7.8).
use Rattle.std.specs.Prelude.{ℕ, ◌+◌, List, [], ◌∷◌, ◌++◌, Option, Some, None, slice_range}
use Rattle.std.specs.List.{flat_map}
use Rattle.xmp_tree.specs.declared.nested.Value.{Value, Value', Row_of-Member, end_of-Member, more_of-Member}
use Rattle.xmp_tree.specs.declared.nested.Member.{Member, Member'}
use Rattle.xmp_tree.specs.declared.nested.Shape.{Shape, Simple, Uri, Struct', Array', Row_of-Value, end_of-Value, more_of-Value}
use Rattle.xmp_tree.specs.Parts.{Parts, member, simple}
use Rattle.xmp_tree.specs.Wf.{note_name}
use Rattle.xmp_write.specs.declared.forms.Form.{Form}

-- The namespaces of the names within a written value, one for each name. Fields and items come before the
-- qualifiers, which are elements after `rdf:value`. `xml:lang` is an attribute of the value's own element, but its
-- namespace is never declared, so its place here is all one; so it is with the names that RDF's forms add.
abbrev mutual
  pub value_spaces : Value → List (List ℕ)
  value_spaces (Value' shape n quals) = shape_spaces shape ++ members_spaces quals

  pub shape_spaces : Shape → List (List ℕ)
  shape_spaces (Simple text) = []
  shape_spaces (Uri text) = []
  shape_spaces (Struct' n fields) = members_spaces fields
  shape_spaces (Array' kind n items) = items_spaces items

  -- a member is an element of its name
  pub member_spaces : Member → List (List ℕ)
  member_spaces (Member' name value) = name.space ∷ value_spaces value

  pub members_spaces : {m : _} → Row_of-Member m → List (List ℕ)
  members_spaces end_of-Member = []
  members_spaces (more_of-Member member rest) = member_spaces member ++ members_spaces rest

  pub items_spaces : {m : _} → Row_of-Value m → List (List ℕ)
  items_spaces end_of-Value = []
  items_spaces (more_of-Value item rest) = value_spaces item ++ items_spaces rest

-- the properties that are written
abbrev pub written_props : Parts → Form → List Member
written_props t form = slice_range t.props form.first (form.first + form.count)

-- The note is a simple text under its name, and no property of the tree.
abbrev pub note_members : Option (List ℕ) → List Member
note_members None = []
note_members (Some digits) = member note_name (simple digits) ∷ []

-- what is written as the properties: the note first, where there is one
abbrev pub written_members : Parts → Form → List Member
written_members t form = note_members form.note ++ written_props t form

abbrev pub note_spaces : Option (List ℕ) → List (List ℕ)
note_spaces None = []
note_spaces (Some digits) = note_name.space ∷ []

-- the namespaces of all names that are written, one for each name
abbrev pub written_spaces : Parts → Form → List (List ℕ)
written_spaces t form = note_spaces form.note ++ flat_map member_spaces (written_props t form)
