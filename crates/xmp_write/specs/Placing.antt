-- What a step of writing a text into a slice does. None of this need be believed: private calls alone say it.
use Rattle.std.specs.Prelude.{◌≡◌, ℕ, ◌+◌, ◌^◌, ◌-◌, ◌<◌, Bool, false, if◌then◌else◌, codes, min, List, [], ◌∷◌, ◌++◌, length, Option, Some, None}
use Rattle.std.specs.List.{flat_map}
use Rattle.std.specs.Simd.Lanes.{put_chunk}
use Rattle.xmp_lanes.specs.declared.plain.Escape.{Escape}
use Rattle.xmp_lanes.specs.declared.plain.Escape.TheVariants.{Text, Attribute}
use Rattle.xmp_tree.specs.declared.nested.Member.{Member}
use Rattle.xmp_tree.specs.declared.nested.Value.{Value, out-Value}
use Rattle.xmp_tree.specs.declared.nested.Shape.{Shape, Shape-F, out-Shape}
use Rattle.xmp_tree.specs.declared.nested.Shape.TheOpen as layer
use Rattle.xmp_tree.specs.Wf.{name_of, value_of}
use Rattle.xmp_write.specs.declared.placing.Spelled.{Spelled}
use Rattle.xmp_write.specs.Text.{is_lang_name, text_byte, quoted_byte}

-- A text put at a place: as much of it as the slice has room for, and the place after it, or the greatest u64.
pub record Puts (old new : List ℕ) (at after : ℕ) (text : List ℕ) : Type 0 where
  pub after_is : after ≡ min (at + length text) (2 ^ 64 - 1)
  pub written : new ≡ put_chunk at old text
  pub held : length old < 2 ^ 64

-- a name as it is spelled
abbrev pub spelled_name : Spelled → List ℕ
spelled_name name = name.prefix.now ++ codes ":" ++ name.local.now

-- a byte and a text, escaped for a place
abbrev pub escape_byte : Escape → ℕ → List ℕ
escape_byte Text = text_byte
escape_byte Attribute = quoted_byte

abbrev pub escaped : Escape → List ℕ → List ℕ
escaped place = flat_map (escape_byte place)

-- qualifiers as lists: the text of `xml:lang` where it stands first, and the others
abbrev pub simple_layer : Shape-F Shape Member Value → List ℕ
simple_layer (layer.Simple text) = text
simple_layer (layer.Uri text) = []
simple_layer (layer.Struct fields) = []
simple_layer (layer.Array kind items) = []

abbrev pub has_lang : List Member → Bool
has_lang [] = false
has_lang (m ∷ ms) = is_lang_name (name_of m)

abbrev pub lang_of : List Member → Option (List ℕ)
lang_of [] = None
lang_of (m ∷ ms) = if is_lang_name (name_of m) then Some (simple_layer (out-Shape (out-Value (value_of m)).shape)) else None

abbrev pub others_of : List Member → List Member
others_of [] = []
others_of (m ∷ ms) = if is_lang_name (name_of m) then ms else m ∷ ms
