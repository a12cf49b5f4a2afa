-- The canonical text of a tree (ISO 16684-1, 7.4 to 7.9), over a list of namespaces each with its prefix.
-- It is read from below: names and escapes, elements, values, properties, the whole.
use Rattle.std.specs.Prelude.{ℕ, Bool, true, false, ◌&&◌, ◌==◌, if◌then◌else◌, codes, List, [], ◌∷◌, ◌++◌, Option, Some, None}
use Rattle.std.specs.List.{flat_map}
use Rattle.std.specs.Str.{bytes_eq}
use Rattle.xmp_values.specs.Spaces.{xml_space}
use Rattle.xmp_values.specs.declared.hints.Hint.{Hint}
use Rattle.xmp_values.specs.declared.text.Name.{Name}
use Rattle.xmp_tree.specs.declared.nested.Kind.{Kind}
use Rattle.xmp_tree.specs.declared.nested.Kind.TheVariants.{Bag, Seq, Alt}
use Rattle.xmp_tree.specs.declared.nested.Value.{Value, Value', Row_of-Member, end_of-Member, more_of-Member}
use Rattle.xmp_tree.specs.declared.nested.Member.{Member, Member'}
use Rattle.xmp_tree.specs.declared.nested.Shape.{Shape, Simple, Uri, Struct', Array', Row_of-Value, end_of-Value, more_of-Value}
use Rattle.xmp_tree.specs.Parts.{Parts}
use Rattle.xmp_write.specs.declared.forms.Form.{Form}
use Rattle.xmp_write.specs.Prefixes.{spelled, prefixes}
use Rattle.xmp_write.specs.Written.{written_members}

-- A byte of a text: `&`, `<`, `>` and CR are references (XML 1.0, 2.4 and 2.11).
abbrev pub text_byte : ℕ → List ℕ
text_byte b =
    if b == 0x26 then codes "&amp;" else
    (if b == 0x3C then codes "&lt;" else
    (if b == 0x3E then codes "&gt;" else
    (if b == 0xD then codes "&#xD;" else b ∷ [])))

-- a byte of an attribute's value: also the quote, tab and LF (XML 1.0, 2.3 and 3.3.3)
abbrev pub quoted_byte : ℕ → List ℕ
quoted_byte b =
    if b == 0x22 then codes "&quot;" else
    (if b == 0x9 then codes "&#x9;" else
    (if b == 0xA then codes "&#xA;" else text_byte b))

abbrev pub text_escaped : List ℕ → List ℕ
text_escaped = flat_map text_byte

abbrev pub quoted_escaped : List ℕ → List ℕ
quoted_escaped = flat_map quoted_byte

-- the name of the qualifier `xml:lang`
abbrev pub is_lang_name : Name → Bool
is_lang_name name = bytes_eq name.space xml_space && bytes_eq name.local (codes "lang")

abbrev pub simple_in : Shape → List ℕ
simple_in (Simple text) = text
simple_in (Uri text) = []
simple_in (Struct' n fields) = []
simple_in (Array' kind n items) = []

abbrev pub tag_in : Value → List ℕ
tag_in (Value' shape n quals) = simple_in shape

-- the text of the qualifier `xml:lang`, which stands first where it is
abbrev pub lang_in : {m : _} → Row_of-Member m → Option (List ℕ)
lang_in end_of-Member = None
lang_in (more_of-Member (Member' name value) rest) = if is_lang_name name then Some (tag_in value) else None

abbrev pub is_more : {m : _} → Row_of-Member m → Bool
is_more end_of-Member = false
is_more (more_of-Member member rest) = true

-- whether there are qualifiers besides `xml:lang`
abbrev pub has_others : {m : _} → Row_of-Member m → Bool
has_others end_of-Member = false
has_others (more_of-Member (Member' name value) rest) = if is_lang_name name then is_more rest else true

-- an attribute after a space
abbrev pub attribute_text : List ℕ → List ℕ → List ℕ
attribute_text name value = codes " " ++ name ++ codes "=\"" ++ quoted_escaped value ++ codes "\""

abbrev pub lang_text : Option (List ℕ) → List ℕ
lang_text None = []
lang_text (Some tag) = attribute_text (codes "xml:lang") tag

abbrev pub parse_text : List ℕ
parse_text = attribute_text (codes "rdf:parseType") (codes "Resource")

-- an element of a name that is spelled so, with attributes and what stands inside it
abbrev pub element_text : List ℕ → List ℕ → List ℕ → List ℕ
element_text name attributes inside = codes "<" ++ name ++ attributes ++ codes ">" ++ inside ++ codes "</" ++ name ++ codes ">"

abbrev pub empty_text : List ℕ → List ℕ → List ℕ
empty_text name attributes = codes "<" ++ name ++ attributes ++ codes "/>"

abbrev pub kind_name : Kind → List ℕ
kind_name Bag = codes "rdf:Bag"
kind_name Seq = codes "rdf:Seq"
kind_name Alt = codes "rdf:Alt"

-- A value as an element of a name, as the name is spelled. Qualifiers besides `xml:lang` stand after `rdf:value`, which holds
-- the value without any.
abbrev mutual
  pub value_text : List Hint → List ℕ → Value → List ℕ
  value_text ps name (Value' shape n quals) =
      if has_others quals
      then element_text name (lang_text (lang_in quals) ++ parse_text) (shape_text ps (codes "rdf:value") None shape ++ others_text ps quals)
      else shape_text ps name (lang_in quals) shape

  pub shape_text : List Hint → List ℕ → Option (List ℕ) → Shape → List ℕ
  shape_text ps name lang (Simple text) = element_text name (lang_text lang) (text_escaped text)
  shape_text ps name lang (Uri text) = empty_text name (lang_text lang ++ attribute_text (codes "rdf:resource") text)
  shape_text ps name lang (Struct' n fields) = element_text name (lang_text lang ++ parse_text) (members_text ps fields)
  shape_text ps name lang (Array' kind n items) = element_text name (lang_text lang) (element_text (kind_name kind) [] (items_text ps items))

  pub member_text : List Hint → Member → List ℕ
  member_text ps (Member' name value) = value_text ps (spelled ps name) value

  pub members_text : {m : _} → List Hint → Row_of-Member m → List ℕ
  members_text ps end_of-Member = []
  members_text ps (more_of-Member member rest) = member_text ps member ++ members_text ps rest

  -- the qualifiers besides `xml:lang`
  pub others_text : {m : _} → List Hint → Row_of-Member m → List ℕ
  others_text ps end_of-Member = []
  others_text ps (more_of-Member (Member' name value) rest) =
      if is_lang_name name then members_text ps rest else value_text ps (spelled ps name) value ++ members_text ps rest

  pub items_text : {m : _} → List Hint → Row_of-Value m → List ℕ
  items_text ps end_of-Value = []
  items_text ps (more_of-Value item rest) = value_text ps (codes "rdf:li") item ++ items_text ps rest

-- the declarations of prefixes, each an attribute (Namespaces in XML 1.0, section 3)
abbrev pub declared_text : List Hint → List ℕ
declared_text [] = []
declared_text (h ∷ hs) = attribute_text (codes "xmlns:" ++ h.prefix) h.space ++ declared_text hs

-- the attributes of `rdf:Description`
abbrev pub top_text : List ℕ → List Hint → List ℕ
top_text about ps = attribute_text (codes "rdf:about") about ++ declared_text ps

-- properties, each on a line
abbrev pub lines_text : List Hint → List Member → List ℕ
lines_text ps [] = []
lines_text ps (m ∷ ms) = member_text ps m ++ (codes "\n" ++ lines_text ps ms)

abbrev pub open_meta : List ℕ
open_meta = codes "<x:xmpmeta xmlns:x=\"adobe:ns:meta/\">"

abbrev pub open_rdf : List ℕ
open_rdf = codes "<rdf:RDF xmlns:rdf=\"http://www.w3.org/1999/02/22-rdf-syntax-ns#\">"

-- The element `x:xmpmeta` of an about and properties. Each element is written as its start, what is inside, and its end.
abbrev pub tree_text : List Hint → List ℕ → List Member → List ℕ
tree_text ps about props =
    open_meta ++ ((codes "\n" ++ ((
    open_rdf ++ ((codes "\n" ++ ((
    (codes "<rdf:Description" ++ top_text about ps ++ codes ">") ++ ((codes "\n" ++ lines_text ps props) ++ codes "</rdf:Description>")
    ) ++ codes "\n")) ++ codes "</rdf:RDF>")
    ) ++ codes "\n")) ++ codes "</x:xmpmeta>")

-- The canonical text of a tree in a form: that element of the tree's about and of the members that are written, and a line feed.
unfoldable pub written_text : List Hint → Parts → Form → List ℕ
written_text ps t form = tree_text ps t.about (written_members t form) ++ codes "\n"

-- the same, with the prefixes that the tree, the hints and the form give
abbrev pub canonical_text : Parts → List Hint → Form → List ℕ
canonical_text t hints form = written_text (prefixes t hints form) t form
