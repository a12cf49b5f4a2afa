-- The elements that have a role, in the order of the document (ISO 16684-1, 7.3 and 7.4).
use Rattle.std.specs.Prelude.{ℕ, zero, suc, ◌+◌, Bool, not, ◌||◌, if◌then◌else◌, List, [], ◌∷◌, ◌++◌, codes}
use Rattle.std.specs.List.{flat_map}
use Rattle.xml_grammar.specs.declared.elements.Element.{Element}
use Rattle.rdf_forms.specs.declared.roles.Role.{Role}
use Rattle.rdf_forms.specs.declared.roles.Role.TheVariants as roles
use Rattle.rdf_forms.specs.declared.roles.Holder.{Holder}
use Rattle.rdf_forms.specs.declared.roles.Holder.TheVariants as holders
use Rattle.rdf_forms.specs.Words.{is_rdf}
use Rattle.rdf_forms.specs.Parts.{name_of, elements_of, has_attribute, has_element}
use Rattle.rdf_forms.specs.Forms.{Form, ByMembers, ByContainer, ByNode, ByAttributes, ByText, NoForm, form_of}

-- A role is the part that an element plays, fixed by the elements around it. A top is a child of `rdf:RDF`; it holds properties.
-- The holder of a property is that top, or the value whose field or qualifier the property gives.

-- An element with its role. The depth is that of the property or item that it is, or that holds it; a top has the tops before it.
pub record Visit : Type 0 where
  pub role : Role
  pub depth : ℕ
  pub element : Element
  pub earlier : List Element

abbrev pub visit : Role → ℕ → Element → Visit
visit role depth e = record { role = role; depth = depth; element = e; earlier = [] }

-- is `rdf:value` a member of this node
unfoldable pub has_value_member : Element → Bool
has_value_member n = has_attribute (is_rdf (codes "value")) n || has_element (is_rdf (codes "value")) n

unfoldable pub is_typed : Element → Bool
is_typed n = not (is_rdf (codes "Description") (name_of n))

-- what holds the members of a property or item with `rdf:parseType="Resource"`, and those of a node
unfoldable pub members_holder : Element → Holder
members_holder e = holders.Value (has_element (is_rdf (codes "value")) e)

unfoldable pub node_holder : Element → Holder
node_holder n = holders.Value (has_value_member n)

-- A member is one deeper than what holds it, but `rdf:value` is as deep.
unfoldable pub member_depth : ℕ → Element → ℕ
member_depth depth c = if is_rdf (codes "value") (name_of c) then depth else depth + 1

-- the elements with a role in each of these members, by those in a property
abbrev pub member_visits : (Role → ℕ → Element → List Visit) → Holder → ℕ → List Element → List Visit
member_visits inside holder depth es = flat_map (λ c. inside (roles.Property holder) (member_depth depth c) c) es

abbrev pub item_visits : (Role → ℕ → Element → List Visit) → ℕ → List Element → List Visit
item_visits inside depth es = flat_map (λ c. inside roles.Item (depth + 1) c) es

-- the elements with a role inside a property or item of this form
abbrev pub form_visits : (Role → ℕ → Element → List Visit) → ℕ → Element → Form → List Visit
form_visits inside depth e ByMembers = member_visits inside (members_holder e) depth (elements_of e)
form_visits inside depth e (ByContainer c) = visit roles.Container depth c ∷ item_visits inside depth (elements_of c)
form_visits inside depth e (ByNode n) = visit roles.Node depth n ∷ member_visits inside (node_holder n) depth (elements_of n)
form_visits inside depth e ByAttributes = []
form_visits inside depth e ByText = []
form_visits inside depth e NoForm = []

-- a property or item, and the elements with a role inside it
abbrev pub property_visits : ℕ → Role → ℕ → Element → List Visit
property_visits zero role depth e = []
property_visits (suc levels) role depth e = visit role depth e ∷ form_visits (property_visits levels) depth e (form_of e)

-- the tops after earlier ones, each with the elements in it
abbrev pub top_visits : ℕ → List Element → List Element → List Visit
top_visits levels earlier [] = []
top_visits levels earlier (t ∷ ts) =
    record { role = roles.Top; depth = 0; element = t; earlier = earlier }
    ∷ (member_visits (property_visits levels) holders.Top 0 (elements_of t) ++ top_visits levels (earlier ++ t ∷ []) ts)

abbrev pub rdf_visits : ℕ → Element → List Visit
rdf_visits levels e = visit roles.Rdf 0 e ∷ top_visits levels [] (elements_of e)

-- `rdf:RDF` in the root, and nothing in another child
abbrev pub child_visits : ℕ → Element → List Visit
child_visits levels c = if is_rdf (codes "RDF") (name_of c) then rdf_visits levels c else []

-- the elements of a document that have a role
abbrev pub visits : ℕ → Element → List Visit
visits levels root =
    if is_rdf (codes "RDF") (name_of root) then rdf_visits levels root
    else visit roles.Root 0 root ∷ flat_map (child_visits levels) (elements_of root)
