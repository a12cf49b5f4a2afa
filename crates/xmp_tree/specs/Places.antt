-- Where a name or a language leads: the place of a member in a list of members, and of an item in
-- the items of an array (ISO 16684-1, 6.3, 6.4).
use Rattle.std.specs.Prelude.{ℕ, Bool, false, List, Option, Some, None, option_map, option_and_then, find, position}
use Rattle.std.specs.Str.{str_eq_ignore_ascii_case}
use Rattle.xmp_values.specs.declared.text.Name.{Name}
unfoldable pub use Rattle.xmp_values.specs.Names.{same_name}
use Rattle.xmp_tree.specs.declared.nested.Value.{Value, out-Value}
use Rattle.xmp_tree.specs.declared.nested.Member.{Member}
use Rattle.xmp_tree.specs.declared.nested.Shape.{Shape, Shape-F, out-Shape}
use Rattle.xmp_tree.specs.declared.nested.Shape.TheOpen as layer
use Rattle.xmp_tree.specs.Wf.{name_of, value_of, lang_name}

-- the place of the first member of a name
abbrev pub place_of : Name → List Member → Option ℕ
place_of name ms = position (λ m. same_name (name_of m) name) ms

-- the value of the first member of a name
abbrev pub value_named : Name → List Member → Option Value
value_named name ms = option_map value_of (find (λ m. same_name (name_of m) name) ms)

-- the text of a simple value
abbrev pub layer_text : Shape-F Shape Member Value → Option (List ℕ)
layer_text (layer.Simple text) = Some text
layer_text (layer.Uri text) = None
layer_text (layer.Struct fields) = None
layer_text (layer.Array kind items) = None

abbrev pub text_of : Value → Option (List ℕ)
text_of v = layer_text (out-Shape (out-Value v).shape)

-- the language of a value: the text of its qualifier `xml:lang`
abbrev pub lang_in : List Member → Option (List ℕ)
lang_in ms = option_and_then text_of (value_named lang_name ms)

abbrev pub lang_of : Value → Option (List ℕ)
lang_of v = lang_in (out-Value v).quals

-- languages are compared without regard to ASCII case (RFC 5646, 2.1.1)
abbrev pub is_tag : List ℕ → Option (List ℕ) → Bool
is_tag tag None = false
is_tag tag (Some lang) = str_eq_ignore_ascii_case lang tag

-- the place of the first item of a language
abbrev pub tag_place : List ℕ → List Value → Option ℕ
tag_place tag vs = position (λ v. is_tag tag (lang_of v)) vs
