-- The lines that tell which properties `reconcile` would change.
use Rattle.std.specs.Prelude.{ℕ, not, if◌then◌else◌, List, [], ◌∷◌, ◌++◌, Bool, true, Option, Some, None, codes, flat_map}
use Rattle.xmp_tree.specs.declared.nested.Member.{Member}
use Rattle.xmp_tree.specs.declared.nested.Value.{Value}
use Rattle.xmp_tree.specs.Places.{value_named}
use Rattle.mwg_rules.specs.declared.choices.Choice.{Choice}
use Rattle.mwg_rules.specs.declared.choices.Choice.TheVariants.{Exif, Xmp, Iptc}
use Rattle.mwg_rules.specs.declared.properties.Form.{Form}
use Rattle.mwg_rules.specs.declared.properties.Property.{Property}
use Rattle.mwg_rules.specs.Properties.{form_of, name_of, properties, shown_name}
use Rattle.mwg_rules.specs.Sources.{Texts}
use Rattle.mwg_rules.specs.Forms.{is_already}
use Rattle.mwg_rules.specs.Reconciled.{chosen}

-- a property that isn't there, or doesn't say the texts, is changed
abbrev pub is_changed : Form → Texts → Option Value → Bool
is_changed form texts None = true
is_changed form texts (Some v) = not (is_already form texts v)

-- `stale PROPERTY SOURCE`
abbrev pub line : Property → List ℕ → List ℕ
line p source = codes "stale " ++ shown_name p ++ codes " " ++ source ++ 10 ∷ []

abbrev pub line_if : Bool → Property → List ℕ → List ℕ
line_if stale p source = if stale then line p source else []

-- of a property and what it has, by the choice for it
unfoldable pub stale_line : Property → Option Choice → Option Value → List ℕ
stale_line p None there = []
stale_line p (Some (Exif texts)) there = line_if (is_changed (form_of p) texts there) p (codes "exif")
stale_line p (Some Xmp) there = []
stale_line p (Some (Iptc texts)) there = line_if (is_changed (form_of p) texts there) p (codes "iptc")

-- in the order of the properties
unfoldable pub stale_lines : List (Option Choice) → List Member → List ℕ
stale_lines choices ms = flat_map (λ p. stale_line p (chosen choices p) (value_named (name_of p) ms)) properties
