-- What each name, each text and each list of attributes of a document keeps.
use Rattle.std.specs.Prelude.{◌≢◌, List, All, AllPairs}
use Rattle.xmp_values.specs.Characters.{IsCharText, IsName}
use Rattle.xmp_values.specs.Hints.{xmlns_space}
use Rattle.xmp_values.specs.declared.text.Name.{Name}
use Rattle.xml_grammar.specs.declared.elements.Attribute.{Attribute}
use Rattle.xml_grammar.specs.declared.elements.Child.{Child, Element', Text, Row_of-Child, end_of-Child, more_of-Child}
use Rattle.xml_grammar.specs.declared.elements.Element.{Element}

-- the local part is a name without colon, and the namespace is made of Chars and isn't that of `xmlns`
pub record IsSoundName (name : Name) : Type 0 where
  pub named : IsName name.local
  pub chars : IsCharText name.space
  pub free : name.space ≢ xmlns_space

pub record IsSoundAttribute (a : Attribute) : Type 0 where
  pub named : IsSoundName a.name
  pub chars : IsCharText a.value

-- no two attributes of an element have one name
pub record AreSoundAttributes (attributes : List Attribute) : Type 0 where
  pub each : All IsSoundAttribute attributes
  pub apart : AllPairs (λ a b. a.name ≢ b.name) attributes

abbrev mutual
  pub IsSoundChild : Child → Type 0
  IsSoundChild (Element' at name attributes n children) = IsSoundName name × AreSoundAttributes attributes × AreSoundChildren children
  IsSoundChild (Text text) = IsCharText text

  pub AreSoundChildren : {m : _} → Row_of-Child m → Type 0
  AreSoundChildren end_of-Child = Unit {0}
  AreSoundChildren (more_of-Child child rest) = IsSoundChild child × AreSoundChildren rest

-- an element and all that is inside it
pub record IsSound (e : Element) : Type 0 where
  pub named : IsSoundName e.name
  pub attributed : AreSoundAttributes e.attributes
  pub filled : All IsSoundChild e.children
