-- The properties of a tree with the chosen values put into them.
use Rattle.std.specs.Prelude.{List, [], ◌∷◌, if◌then◌else◌, Option, Some, None, All, slice_get}
use Rattle.std.specs.Option.{option_flatten}
use Rattle.xmp_values.specs.Characters.{IsCharText}
use Rattle.xmp_values.specs.declared.text.Name.{Name}
use Rattle.xmp_tree.specs.declared.nested.Member.{Member}
use Rattle.xmp_tree.specs.declared.nested.Value.{Value}
use Rattle.xmp_tree.specs.Parts.{member}
use Rattle.xmp_tree.specs.Places.{same_name}
use Rattle.xmp_tree.specs.Wf.{value_of}
use Rattle.xmp_tree.specs.Wf.{name_of as member_name}
use Rattle.mwg_rules.specs.declared.choices.Choice.{Choice}
use Rattle.mwg_rules.specs.declared.choices.Choice.TheVariants.{Exif, Xmp, Iptc}
use Rattle.mwg_rules.specs.declared.properties.Property.{Property}
use Rattle.mwg_rules.specs.Properties.{form_of, name_of, number_of, properties}
use Rattle.mwg_rules.specs.Sources.{Texts}
use Rattle.mwg_rules.specs.Forms.{with_texts}

-- the texts that a choice brings; XMP's own value stays as it is
abbrev pub texts_of : Option Choice → Option Texts
texts_of None = None
texts_of (Some (Exif texts)) = Some texts
texts_of (Some Xmp) = None
texts_of (Some (Iptc texts)) = Some texts

-- The first member of a name becomes what `f` makes of it, in its place; where there is none, a new one goes last. All others stay.
abbrev pub with_property : Name → (Option Value → Value) → List Member → List Member
with_property name f [] = member name (f None) ∷ []
with_property name f (m ∷ ms) =
    if same_name (member_name m) name then member (member_name m) (f (Some (value_of m))) ∷ ms else m ∷ with_property name f ms

abbrev pub put : Property → Option Texts → List Member → List Member
put p None ms = ms
put p (Some texts) ms = with_property (name_of p) (with_texts (form_of p) texts) ms

-- the choice for a property in the list of twelve
abbrev pub chosen : List (Option Choice) → Property → Option Choice
chosen choices p = option_flatten (slice_get choices (number_of p))

-- one property after another
abbrev pub put_all : List Property → List (Option Choice) → List Member → List Member
put_all [] choices ms = ms
put_all (p ∷ ps) choices ms = put_all ps choices (put p (texts_of (chosen choices p)) ms)

unfoldable pub reconciled : List (Option Choice) → List Member → List Member
reconciled choices ms = put_all properties choices ms

-- each text of a choice may stand in a tree
abbrev pub HasChars : Option Choice → Type 0
HasChars None = Unit {0}
HasChars (Some (Exif texts)) = All IsCharText texts
HasChars (Some Xmp) = Unit {0}
HasChars (Some (Iptc texts)) = All IsCharText texts
