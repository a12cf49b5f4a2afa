-- Which namespace a name is in (Namespaces in XML 1.0).
use Rattle.std.specs.Prelude.{ℕ, Bool, true, false, not, ◌&&◌, ◌||◌, if◌then◌else◌, is_none, List, [], ◌∷◌, map, Option, Some, None, codes}
use Rattle.std.specs.List.{filter, filter_map}
use Rattle.std.specs.Option.{option_eq, unwrap_or}
use Rattle.std.specs.Str.{bytes_eq}
use Rattle.xmp_values.specs.declared.text.Name.{Name}
unfoldable pub use Rattle.xmp_values.specs.Spaces.{xml_space, xmlns_space}
use Rattle.xml_grammar.specs.declared.elements.Attribute.{Attribute}
use Rattle.xml_grammar.specs.declared.tags.QName.{QName}
use Rattle.xml_grammar.specs.declared.tags.RawAttribute.{RawAttribute}

-- a prefix, or none for the default namespace, and what is bound to it
pub record Binding : Type 0 where
  pub prefix : Option (List ℕ)
  pub space : List ℕ

-- what is bound where nothing is declared
abbrev pub predeclared : List Binding
predeclared = record { prefix = Some (codes "xml"); space = xml_space } ∷ []

-- what an attribute of this name declares with a value (section 3): `xmlns:p` the prefix p, `xmlns` the default
abbrev pub binding_at : Option (List ℕ) → List ℕ → List ℕ → Option Binding
binding_at None local value = if bytes_eq local (codes "xmlns") then Some (record { prefix = None; space = value }) else None
binding_at (Some prefix) local value = if bytes_eq prefix (codes "xmlns") then Some (record { prefix = Some local; space = value }) else None

abbrev pub binding_of : RawAttribute → Option Binding
binding_of a = binding_at a.name.prefix a.name.local a.value

-- the declarations of a tag, in their order
abbrev pub bindings_of : List RawAttribute → List Binding
bindings_of = filter_map binding_of

-- the attributes that declare nothing, in their order
abbrev pub plain_attributes : List RawAttribute → List RawAttribute
plain_attributes = filter (λ a. is_none (binding_of a))

abbrev pub same_prefix : Option (List ℕ) → Option (List ℕ) → Bool
same_prefix = option_eq bytes_eq

-- what is bound to a prefix by declarations, of which the innermost comes first
abbrev pub bound_to : List Binding → Option (List ℕ) → Option (List ℕ)
bound_to [] prefix = None
bound_to (b ∷ bs) prefix = if same_prefix b.prefix prefix then Some b.space else bound_to bs prefix

abbrev pub or_nothing : Option (List ℕ) → List ℕ
or_nothing space = unwrap_or space []

-- an element without prefix is in the default namespace, if there is one (section 6.2)
abbrev pub element_name : List Binding → QName → Name
element_name bs name = record { space = or_nothing (bound_to bs name.prefix); local = name.local }

-- an attribute without prefix is in none
abbrev pub attribute_space : List Binding → Option (List ℕ) → List ℕ
attribute_space bs None = []
attribute_space bs (Some prefix) = or_nothing (bound_to bs (Some prefix))

abbrev pub expanded : List Binding → RawAttribute → Attribute
expanded bs a = record { name = record { space = attribute_space bs a.name.prefix; local = a.name.local }; value = a.value }

-- the attributes of an element, with their names expanded and without declarations
abbrev pub expanded_attributes : List Binding → List RawAttribute → List Attribute
expanded_attributes bs attributes = map (expanded bs) (plain_attributes attributes)

abbrev pub is_unbound : List Binding → Option (List ℕ) → Bool
is_unbound bs None = false
is_unbound bs (Some prefix) = is_none (bound_to bs (Some prefix))

-- XML's namespace or that of `xmlns`, which belong to their own prefixes
abbrev pub is_reserved : List ℕ → Bool
is_reserved space = bytes_eq space xml_space || bytes_eq space xmlns_space

-- a declaration that isn't allowed (sections 3 and 5, the namespace constraints): of the prefix `xmlns`, of `xml` with another
-- namespace, of another prefix or the default with a reserved one, of a prefix with nothing
abbrev pub is_misbound_to : Option (List ℕ) → List ℕ → Bool
is_misbound_to None space = is_reserved space
is_misbound_to (Some prefix) space =
    if bytes_eq prefix (codes "xmlns") then true
    else if bytes_eq prefix (codes "xml") then not (bytes_eq space xml_space)
    else is_reserved space || bytes_eq space []

abbrev pub is_misbound : Binding → Bool
is_misbound b = is_misbound_to b.prefix b.space

abbrev pub same_qname : QName → QName → Bool
same_qname m n = same_prefix m.prefix n.prefix && bytes_eq m.local n.local
