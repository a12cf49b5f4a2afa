-- Which source a property's value is taken from (Metadata Working Group, Guidelines for Handling Image Metadata 2.0, section 3.4).
use Rattle.std.specs.Prelude.{ℕ, ◌==◌, ◌&&◌, Bool, true, false, not, if◌then◌else◌, List, length, map, slice_get, Option, Some, None}
use Rattle.std.specs.List.{list_all}
use Rattle.std.specs.Option.{option_and_then, option_flatten, option_map, option_or}
use Rattle.std.specs.Str.{bytes_eq, chars, is_utf8}
use Rattle.xmp_values.specs.Characters.{is_blank, is_char}
use Rattle.xmp_tree.specs.declared.nested.Member.{Member}
use Rattle.xmp_tree.specs.declared.nested.Value.{Value, out-Value}
use Rattle.xmp_tree.specs.declared.nested.Shape.{Shape, Shape-F, out-Shape}
use Rattle.xmp_tree.specs.declared.nested.Shape.TheOpen as layer
use Rattle.xmp_tree.specs.Places.{value_named}
use Rattle.mwg_rules.specs.declared.choices.Choice.{Choice}
use Rattle.mwg_rules.specs.declared.choices.Choice.TheVariants.{Exif, Xmp, Iptc}
use Rattle.mwg_rules.specs.declared.properties.Property.{Property}
use Rattle.mwg_rules.specs.Properties.{properties, name_of, number_of}

-- a value that Exif or IPTC has: its texts
abbrev pub Texts : Type 0
Texts = List (List ℕ)

-- the UTF-8 of XML's Chars, as every text of a tree is
unfoldable pub is_chars : List ℕ → Bool
is_chars bytes = is_utf8 bytes && list_all is_char (chars bytes)

abbrev pub if_chars : Texts → Option Texts
if_chars texts = if list_all is_chars texts then Some texts else None

-- the value of a property in a source's list of twelve, if a tree can have it
unfoldable pub value_at : List (Option Texts) → ℕ → Option Texts
value_at values i = option_and_then if_chars (option_flatten (slice_get values i))

-- a stored digest and that of the block are there, and they differ
abbrev pub differs : Option (List ℕ) → Option (List ℕ) → Bool
differs None block = false
differs (Some stored) None = false
differs (Some stored) (Some block) = not (bytes_eq stored block)

-- a value that says something: no blank text, and no array without items
abbrev pub says : Shape-F Shape Member Value → Bool
says (layer.Simple text) = not (list_all is_blank text)
says (layer.Uri text) = true
says (layer.Struct fields) = true
says (layer.Array kind items) = not (length items == 0)

abbrev pub has_value : Option Value → Bool
has_value None = false
has_value (Some v) = says (out-Shape (out-Value v).shape)

-- The first row that holds. Exif's value; IPTC's where the block has changed since its digest was stored; XMP's own; IPTC's. Where
-- none holds there is no choice.
unfoldable pub preferred : Option Texts → Bool → Bool → Option Texts → Option Choice
preferred exif changed xmp iptc =
    option_or (option_map Exif exif)
    (option_or (if changed then option_map Iptc iptc else None)
    (option_or (if xmp then Some Xmp else None)
    (option_map Iptc iptc)))

-- the choice for a property of these members
abbrev pub choice_for : List (Option Texts) → Bool → List (Option Texts) → List Member → Property → Option Choice
choice_for exif changed iptc props p =
    preferred (value_at exif (number_of p)) changed (has_value (value_named (name_of p) props)) (value_at iptc (number_of p))

-- those for all twelve
unfoldable pub choices_for : List (Option Texts) → Bool → List (Option Texts) → List Member → List (Option Choice)
choices_for exif changed iptc props = map (choice_for exif changed iptc props) properties
