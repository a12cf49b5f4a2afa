-- What an element of a document must be to be the writing of a value, wherever it stands.
use Rattle.std.specs.List.{list_all}
use Rattle.xmp_values.specs.Characters.{is_blank}
use Rattle.xmp_values.specs.Spaces.{meta_space}
use Rattle.std.specs.Prelude.{◌≡◌, IsTrue, ℕ, Bool, true, false, codes, List, [], ◌∷◌, ◌++◌, Option, Some, None}
use Rattle.xmp_values.specs.declared.text.Name.{Name}
use Rattle.xml_grammar.specs.declared.elements.Attribute.{Attribute}
use Rattle.xml_grammar.specs.declared.elements.Element.{Element}
use Rattle.xmp_tree.specs.declared.nested.Kind.{Kind}
use Rattle.xmp_tree.specs.declared.nested.Kind.TheVariants.{Bag, Seq, Alt}
use Rattle.xmp_tree.specs.declared.nested.Value.{Value, Value', Row_of-Member, end_of-Member, more_of-Member}
use Rattle.xmp_tree.specs.declared.nested.Member.{Member, Member'}
use Rattle.xmp_tree.specs.declared.nested.Shape.{Shape, Simple, Uri, Struct', Array', Row_of-Value, end_of-Value, more_of-Value}
use Rattle.xmp_tree.specs.Wf.{lang_name}
use Rattle.rdf_forms.specs.Words.{rdf}
use Rattle.rdf_forms.specs.Parts.{name_of, attributes_of, elements_of, own_text}
use Rattle.xmp_write.specs.Text.{is_lang_name, lang_in, has_others}

-- an element's name, attributes and own text
pub record IsElement (e : Element) (name : Name) (attributes : List Attribute) (text : List ℕ) : Type 0 where
  pub named : name_of e ≡ name
  pub attributed : attributes_of e ≡ attributes
  pub worded : own_text e ≡ text

abbrev pub lang_attributes : Option (List ℕ) → List Attribute
lang_attributes None = []
lang_attributes (Some tag) = record { name = lang_name; value = tag } ∷ []

-- what an element bears besides `xml:lang`
pub data Mark : Type 0 where
  Plain : Mark
  Parsed : Mark
  Resource : List ℕ → Mark

abbrev pub mark_attributes : Mark → List Attribute
mark_attributes Plain = []
mark_attributes Parsed = record { name = rdf (codes "parseType"); value = codes "Resource" } ∷ []
mark_attributes (Resource uri) = record { name = rdf (codes "resource"); value = uri } ∷ []

abbrev pub IsMarked : Element → Name → Option (List ℕ) → Mark → List ℕ → Type 0
IsMarked e name lang mark text = IsElement e name (lang_attributes lang ++ mark_attributes mark) text

abbrev pub kind_local : Kind → List ℕ
kind_local Bag = codes "Bag"
kind_local Seq = codes "Seq"
kind_local Alt = codes "Alt"

abbrev pub Chosen : Bool → Type 0 → Type 0 → Type 0
Chosen true A B = A
Chosen false A B = B

-- a list of a first that is so and others that are so
abbrev pub Begun : (Element → Type 0) → (List Element → Type 0) → List Element → Type 0
Begun First Others es = (x : Element) × (others : List Element) × (es ≡ x ∷ others) × First x × Others others

-- An element is the writing of a value under a name.
abbrev mutual
  pub IsWritten : Element → Name → Value → Type 0
  IsWritten e name (Value' shape n quals) = Chosen (has_others quals)
      (IsMarked e name (lang_in quals) Parsed [] × Begun (λ x. IsShape x (rdf (codes "value")) None shape) (λ es. AreOthers es quals) (elements_of e))
      (IsShape e name (lang_in quals) shape)

  pub IsShape : Element → Name → Option (List ℕ) → Shape → Type 0
  IsShape e name lang (Simple text) = IsMarked e name lang Plain text × (elements_of e ≡ [])
  IsShape e name lang (Uri text) = IsMarked e name lang (Resource text) [] × (elements_of e ≡ [])
  IsShape e name lang (Struct' n fields) = IsMarked e name lang Parsed [] × AreMembers (elements_of e) fields
  IsShape e name lang (Array' kind n items) =
      IsMarked e name lang Plain []
      × ((c : Element) × (elements_of e ≡ c ∷ []) × IsElement c (rdf (kind_local kind)) [] [] × AreItems (elements_of c) items)

  pub IsMember : Element → Member → Type 0
  IsMember e (Member' name value) = IsWritten e name value

  pub AreMembers : {m : _} → List Element → Row_of-Member m → Type 0
  AreMembers es end_of-Member = es ≡ []
  AreMembers es (more_of-Member member rest) = Begun (λ x. IsMember x member) (λ others. AreMembers others rest) es

  -- the qualifiers besides `xml:lang`
  pub AreOthers : {m : _} → List Element → Row_of-Member m → Type 0
  AreOthers es end_of-Member = es ≡ []
  AreOthers es (more_of-Member (Member' name value) rest) =
      Chosen (is_lang_name name) (AreMembers es rest) (Begun (λ x. IsWritten x name value) (λ others. AreMembers others rest) es)

  pub AreItems : {m : _} → List Element → Row_of-Value m → Type 0
  AreItems es end_of-Value = es ≡ []
  AreItems es (more_of-Value item rest) = Begun (λ x. IsWritten x (rdf (codes "li")) item) (λ others. AreItems others rest) es

-- elements one after the other that are the writings of properties
abbrev pub AreProperties : List Element → List Member → Type 0
AreProperties es [] = es ≡ []
AreProperties es (m ∷ ms) = Begun (λ x. IsMember x m) (λ others. AreProperties others ms) es

-- the root of a text that writes properties with an about
pub record IsTree (root : Element) (about : List ℕ) (props : List Member) : Type 0 where
  pub described : Element
  pub top : Element
  pub meta_is : IsElement root (record { space = meta_space; local = codes "xmpmeta" }) [] (codes "\n\n")
  pub one : elements_of root ≡ described ∷ []
  pub rdf_is : IsElement described (rdf (codes "RDF")) [] (codes "\n\n")
  pub one_top : elements_of described ≡ top ∷ []
  pub named : name_of top ≡ rdf (codes "Description")
  pub attributed : attributes_of top ≡ record { name = rdf (codes "about"); value = about } ∷ []
  pub blank : IsTrue (list_all is_blank (own_text top))
  pub listed : AreProperties (elements_of top) props
