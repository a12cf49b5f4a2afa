-- Well-formed property trees: the data model of XMP (ISO 16684-1, clause 6), less what RDF/XML
-- can't write. A tree is an about and a list of properties. A value is a shape and a list of
-- qualifiers. A property, a field and a qualifier is each a member, a name with its value.
-- Eight rules make a tree well-formed. Each has its number where it is said.
use Rattle.std.specs.Prelude.{ℕ, ◌+◌, ◌≤◌, ◌≡◌, ◌≢◌, max, List, [], All, AllPairs, codes}
use Rattle.xmp_values.specs.declared.text.Name.{Name}
use Rattle.xmp_values.specs.Characters.{IsCharText, IsName}
unfoldable pub use Rattle.xmp_values.specs.Spaces.{xml_space, rdf_space, xmlns_space}
use Rattle.xmp_tree.specs.declared.nested.Value.{Value, Value', out-Value, Row_of-Member, end_of-Member, more_of-Member, items-the_row-Member}
use Rattle.xmp_tree.specs.declared.nested.Member.{Member, Member', out-Member}
use Rattle.xmp_tree.specs.declared.nested.Shape.{Shape, Shape-F, out-Shape, Simple, Uri, Struct', Array', Row_of-Value, end_of-Value, more_of-Value}
use Rattle.xmp_tree.specs.declared.nested.Shape.TheOpen as layer
use Rattle.xmp_tree.specs.Parts.{Parts}

-- a member's name and its value
abbrev pub name_of : Member → Name
name_of m = (out-Member m).name

abbrev pub value_of : Member → Value
value_of m = (out-Member m).value

-- 1. No two names of a list are the same (6.1 of properties, 6.3.3 of fields, 6.4 of qualifiers).
abbrev pub NamesDiffer : List Member → Type 0
NamesDiffer ms = AllPairs (λ m n. name_of m ≢ name_of n) ms

-- 2. A local part is an XML name without colon (6.2; Namespaces in XML 1.0, NCName).
-- 3. All text is made of XML's Chars, a namespace too (6.3.2; XML 1.0, production 2).
pub record IsNamed (n : Name) : Type 0 where
  pub chars : IsCharText n.space
  pub local : IsName n.local

-- 4. A namespace isn't empty, and it is none of RDF's, XML's and that of `xmlns`, whose names
-- have a meaning of their own in RDF/XML (6.2, 7.2).
pub record IsOwnSpace (space : List ℕ) : Type 0 where
  pub some : space ≢ []
  pub not_rdf : space ≢ rdf_space
  pub not_xml : space ≢ xml_space
  pub not_xmlns : space ≢ xmlns_space

-- the name `xml:lang` of the qualifier that tells a text's language (6.4)
unfoldable pub lang_name : Name
lang_name = record { space = xml_space; local = codes "lang" }

-- the name `rdf:type` of the qualifier that tells a value's type (6.4)
unfoldable pub type_name : Name
type_name = record { space = rdf_space; local = codes "type" }

-- the shape of a simple text, and that of a URI (6.3.2)
abbrev pub IsSimpleLayer : Shape-F Shape Member Value → Type 0
IsSimpleLayer (layer.Simple text) = Unit {0}
IsSimpleLayer (layer.Uri text) = ⊥
IsSimpleLayer (layer.Struct fields) = ⊥
IsSimpleLayer (layer.Array kind items) = ⊥

abbrev pub IsUriLayer : Shape-F Shape Member Value → Type 0
IsUriLayer (layer.Simple text) = ⊥
IsUriLayer (layer.Uri text) = Unit {0}
IsUriLayer (layer.Struct fields) = ⊥
IsUriLayer (layer.Array kind items) = ⊥

-- a simple text with no qualifier
abbrev pub IsPlain : Value → Type 0
IsPlain v = IsSimpleLayer (out-Shape (out-Value v).shape) × ((out-Value v).quals ≡ [])

-- a URI with no qualifier
abbrev pub IsPlainUri : Value → Type 0
IsPlainUri v = IsUriLayer (out-Shape (out-Value v).shape) × ((out-Value v).quals ≡ [])

-- what the properties of a tree and the fields of a structure keep together (6.1, 6.3.3)
pub record AreFields (ms : List Member) : Type 0 where
  pub apart : NamesDiffer ms
  pub own : All (λ m. IsOwnSpace (name_of m).space) ms

-- What a qualifier keeps by itself (6.4): `xml:lang` and `rdf:type` alone may have a namespace
-- that isn't their own.
-- 5. `xml:lang` is a simple text with no qualifier.
-- 6. `rdf:type` is a URI with no qualifier.
pub record IsQualifier (m : Member) : Type 0 where
  pub own : name_of m ≢ lang_name → name_of m ≢ type_name → IsOwnSpace (name_of m).space
  pub lang : name_of m ≡ lang_name → IsPlain (value_of m)
  pub kind : name_of m ≡ type_name → IsPlainUri (value_of m)

-- What the qualifiers of a value keep together (6.4).
-- 5. `xml:lang` is the first of its list.
pub record AreQualifiers (ms : List Member) : Type 0 where
  pub apart : NamesDiffer ms
  pub each : All IsQualifier ms
  pub lang_first : AllPairs (λ m n. name_of n ≢ lang_name) ms

-- A value, a shape and a member that keep the rules above at each level (6.3, 6.4).
abbrev mutual
  pub IsWfValue : Value → Type 0
  IsWfValue (Value' shape n quals) = IsWfShape shape × (AreWfMembers quals × AreQualifiers (items-the_row-Member _ quals))

  -- 3. All text is made of XML's Chars.
  pub IsWfShape : Shape → Type 0
  IsWfShape (Simple text) = IsCharText text
  IsWfShape (Uri text) = IsCharText text
  IsWfShape (Struct' n fields) = AreWfMembers fields × AreFields (items-the_row-Member _ fields)
  IsWfShape (Array' kind n items) = AreWfValues items

  pub IsWfMember : Member → Type 0
  IsWfMember (Member' name value) = IsNamed name × IsWfValue value

  pub AreWfMembers : {m : _} → Row_of-Member m → Type 0
  AreWfMembers end_of-Member = Unit {0}
  AreWfMembers (more_of-Member member rest) = IsWfMember member × AreWfMembers rest

  pub AreWfValues : {m : _} → Row_of-Value m → Type 0
  AreWfValues end_of-Value = Unit {0}
  AreWfValues (more_of-Value value rest) = IsWfValue value × AreWfValues rest

-- How deep a value goes, itself counted: one more than the deepest of its fields, items and
-- qualifiers (6.3, 6.4). A property has depth 1.
abbrev mutual
  pub value_depth : Value → ℕ
  value_depth (Value' shape n quals) = max (shape_depth shape) (member_depths quals) + 1

  pub shape_depth : Shape → ℕ
  shape_depth (Simple text) = 0
  shape_depth (Uri text) = 0
  shape_depth (Struct' n fields) = member_depths fields
  shape_depth (Array' kind n items) = value_depths items

  pub member_depth : Member → ℕ
  member_depth (Member' name value) = value_depth value

  pub member_depths : {m : _} → Row_of-Member m → ℕ
  member_depths end_of-Member = 0
  member_depths (more_of-Member member rest) = max (member_depth member) (member_depths rest)

  pub value_depths : {m : _} → Row_of-Value m → ℕ
  value_depths end_of-Value = 0
  value_depths (more_of-Value value rest) = max (value_depth value) (value_depths rest)

-- members of whichever list, each well-formed and no deeper than this many levels
pub record AreWithin (room : ℕ) (ms : List Member) : Type 0 where
  pub each : All IsWfMember ms
  pub shallow : All (λ m. member_depth m ≤ room) ms

-- properties or fields that may stand where this many levels are left
pub record AreWellFormed (room : ℕ) (ms : List Member) : Type 0 where
  pub within : AreWithin room ms
  pub fields : AreFields ms

-- qualifiers that may stand where this many levels are left
pub record AreWellFormedQualifiers (room : ℕ) (ms : List Member) : Type 0 where
  pub within : AreWithin room ms
  pub quals : AreQualifiers ms

-- the name `xmpNote:HasExtendedXMP` of the note, which names the extended text of a JPEG file
-- (XMP Specification, Part 3, Storage in Files, 1.1.3.1)
unfoldable pub note_name : Name
note_name = record { space = codes "http://ns.adobe.com/xmp/note/"; local = codes "HasExtendedXMP" }

-- A well-formed tree.
-- 7. The note isn't a property: it belongs to the file and not to the tree.
-- 8. The depth is at most 24, a limit of this project's own.
pub record Wf (t : Parts) : Type 0 where
  pub about : IsCharText t.about
  pub props : AreWellFormed 24 t.props
  pub note : All (λ m. name_of m ≢ note_name) t.props
