-- What is at a path.
use Rattle.std.specs.Prelude.{List, [], ◌∷◌, Option, Some, option_and_then, slice_get}
use Rattle.xmp_tree.specs.declared.nested.Value.{Value, out-Value}
use Rattle.xmp_tree.specs.declared.nested.Member.{Member}
use Rattle.xmp_tree.specs.declared.nested.Shape.{Shape, Shape-F, out-Shape}
use Rattle.xmp_tree.specs.declared.nested.Shape.TheOpen as layer
use Rattle.xmp_tree.specs.Parts.{Parts}
use Rattle.xmp_tree.specs.Places.{value_named, tag_place}
use Rattle.xmp_paths.specs.declared.step.Step.{Step}
use Rattle.xmp_paths.specs.declared.step.Step.TheVariants.{Field, Qualifier, Item, Tag}
use Rattle.xmp_paths.specs.Parts.{PathParts}

abbrev pub fields_in : Shape-F Shape Member Value → List Member
fields_in (layer.Simple text) = []
fields_in (layer.Uri text) = []
fields_in (layer.Struct fields) = fields
fields_in (layer.Array kind items) = []

abbrev pub items_in : Shape-F Shape Member Value → List Value
items_in (layer.Simple text) = []
items_in (layer.Uri text) = []
items_in (layer.Struct fields) = []
items_in (layer.Array kind items) = items

abbrev pub fields_of : Value → List Member
fields_of v = fields_in (out-Shape (out-Value v).shape)

abbrev pub items_of : Value → List Value
items_of v = items_in (out-Shape (out-Value v).shape)

-- the value to which a step leads: a field of a structure, a qualifier, an item of an array, or its
-- first item of a language
abbrev pub child : Step → Value → Option Value
child (Field name) v = value_named name (fields_of v)
child (Qualifier name) v = value_named name (out-Value v).quals
child (Item at) v = slice_get (items_of v) at
child (Tag tag) v = option_and_then (slice_get (items_of v)) (tag_place tag (items_of v))

-- the value at the end of steps
abbrev pub child_at : List Step → Value → Option Value
child_at [] v = Some v
child_at (s ∷ ss) v = option_and_then (child_at ss) (child s v)

-- the value at a path, or none
abbrev pub at : Parts → PathParts → Option Value
at t p = option_and_then (child_at p.steps) (value_named p.name t.props)
