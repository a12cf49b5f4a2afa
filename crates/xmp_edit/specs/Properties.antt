-- A value as it is held while edits are made. None of this need be believed: it says what private parts of a
-- type hold.
use Rattle.std.specs.Prelude.{Option, option_map, Result, Ok, Err}
use Rattle.xmp_values.specs.declared.stops.RuleStop.{RuleStop}
use Rattle.xmp_tree.specs.declared.nested.Value.{Value}
use Rattle.xmp_tree.specs.declared.nested.Shape.{Shape, Simple, Uri, Struct, Array}
use Rattle.xmp_tree.specs.Parts.{value}
use Rattle.xmp_edit.specs.declared.held.Held.{Held}
use Rattle.xmp_edit.specs.declared.held.HeldShape.{HeldShape}
use Rattle.xmp_edit.specs.declared.held.HeldShape.TheVariants as held

-- the shape that is held
abbrev pub shape_of : HeldShape → Shape
shape_of (held.Simple text) = Simple text
shape_of (held.Uri uri) = Uri uri
shape_of (held.Struct fields) = Struct fields
shape_of (held.Array kind items) = Array kind items

-- the value that is held
abbrev pub whole : Held → Value
whole h = value (shape_of h.shape) h.quals

-- what a call that returns one gave
abbrev pub whole_of : Result Held RuleStop → Result Value RuleStop
whole_of (Ok h) = Ok (whole h)
whole_of (Err stop) = Err stop

abbrev pub wholes : Result (Option Held) RuleStop → Result (Option Value) RuleStop
wholes (Ok h) = Ok (option_map whole h)
wholes (Err stop) = Err stop
