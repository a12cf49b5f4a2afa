-- The lines that show a tree: first `about VALUE`, then for each value `PATH KIND REST`.
use Rattle.std.specs.Prelude.{ℕ, ◌+◌, ◌==◌, if◌then◌else◌, codes, decimal, List, [], ◌∷◌, ◌++◌, length}
use Rattle.std.specs.List.{flat_map}
use Rattle.xmp_values.specs.declared.hints.Hint.{Hint}
use Rattle.xmp_tree.specs.declared.nested.Kind.{Kind}
use Rattle.xmp_tree.specs.declared.nested.Kind.TheVariants.{Bag, Seq, Alt}
use Rattle.xmp_tree.specs.declared.nested.Value.{Value, Value', Row_of-Member, end_of-Member, more_of-Member}
use Rattle.xmp_tree.specs.declared.nested.Member.{Member, Member'}
use Rattle.xmp_tree.specs.declared.nested.Shape.{Shape, Shape-F, out-Shape, Simple, Uri, Struct', Array', Row_of-Value, end_of-Value, more_of-Value}
use Rattle.xmp_tree.specs.declared.nested.Shape.TheOpen as layer
use Rattle.xmp_tree.specs.Parts.{Parts}
use Rattle.xmp_write.specs.Prefixes.{spelled}

-- a byte of a text, so that the text stays on its line: `\` is `\\`, LF `\n`, CR `\r`, tab `\t`
abbrev pub shown_byte : ℕ → List ℕ
shown_byte b =
    if b == 0x5C then codes "\\\\" else
    (if b == 0xA then codes "\\n" else
    (if b == 0xD then codes "\\r" else
    (if b == 0x9 then codes "\\t" else b ∷ [])))

abbrev pub shown : List ℕ → List ℕ
shown = flat_map shown_byte

abbrev pub kind_word : Kind → List ℕ
kind_word Bag = codes "bag "
kind_word Seq = codes "seq "
kind_word Alt = codes "alt "

-- KIND REST: the text or the URI, or the number of fields or items
abbrev pub shape_word : Shape-F Shape Member Value → List ℕ
shape_word (layer.Simple text) = codes "text " ++ shown text
shape_word (layer.Uri text) = codes "uri " ++ shown text
shape_word (layer.Struct fields) = codes "struct " ++ decimal (length fields)
shape_word (layer.Array kind items) = kind_word kind ++ decimal (length items)

-- the path of a field or a property, of a qualifier, and of an item, after that of its holder
abbrev pub field_path : List ℕ → List ℕ
field_path path = path ++ codes "/"

abbrev pub qualifier_path : List ℕ → List ℕ
qualifier_path path = path ++ codes "/?"

abbrev pub item_path : List ℕ → ℕ → List ℕ
item_path path n = path ++ codes "[" ++ decimal n ++ codes "]"

-- The lines of what stands at a path: its own, then those of its qualifiers, then those of its fields or items,
-- which are counted from 1. A member's path is its name after what stands before it.
abbrev mutual
  pub value_lines : List Hint → List ℕ → Value → List ℕ
  value_lines ps path (Value' shape n quals) =
      path ++ codes " " ++ shape_word (out-Shape shape) ++ codes "\n" ++ members_lines ps (qualifier_path path) quals ++ shape_lines ps path shape

  pub shape_lines : List Hint → List ℕ → Shape → List ℕ
  shape_lines ps path (Simple text) = []
  shape_lines ps path (Uri text) = []
  shape_lines ps path (Struct' n fields) = members_lines ps (field_path path) fields
  shape_lines ps path (Array' kind n items) = items_lines ps path 1 items

  pub member_lines : List Hint → List ℕ → Member → List ℕ
  member_lines ps front (Member' name value) = value_lines ps (front ++ spelled ps name) value

  pub members_lines : {m : _} → List Hint → List ℕ → Row_of-Member m → List ℕ
  members_lines ps front end_of-Member = []
  members_lines ps front (more_of-Member member rest) = member_lines ps front member ++ members_lines ps front rest

  pub items_lines : {m : _} → List Hint → List ℕ → ℕ → Row_of-Value m → List ℕ
  items_lines ps path n end_of-Value = []
  items_lines ps path n (more_of-Value item rest) = value_lines ps (item_path path n) item ++ items_lines ps path (n + 1) rest

-- the lines of a tree with the prefixes of its text
abbrev pub lines : List Hint → Parts → List ℕ
lines ps t = codes "about " ++ shown t.about ++ codes "\n" ++ flat_map (member_lines ps []) t.props
