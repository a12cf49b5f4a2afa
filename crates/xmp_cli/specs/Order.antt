-- The last steps of the one order of refusals: the path, and what is there. The steps before them are those of a file.
use Rattle.std.specs.Prelude.{ℕ, List, ◌++◌, length, Option, None, Some, Ok, Err, codes}
use Rattle.std.specs.declared.result.Result.{Result}
use Rattle.xmp_values.specs.declared.faults.Fault.{Fault}
use Rattle.xmp_values.specs.declared.faults.Part.TheVariants.{Words}
use Rattle.xmp_values.specs.declared.rules.Rule.{Rule}
use Rattle.xmp_values.specs.declared.rules.Rule.TheVariants.{NoSuchPlace}
use Rattle.xmp_tree.specs.declared.nested.Member.{Member}
use Rattle.xmp_tree.specs.declared.nested.Value.{Value, out-Value}
use Rattle.xmp_tree.specs.declared.nested.Shape.{Shape, Shape-F, out-Shape}
use Rattle.xmp_tree.specs.declared.nested.Shape.TheOpen as layer
use Rattle.xmp_paths.specs.Parts.{PathParts}
use Rattle.xmp_paths.specs.Paths.{path_of}
use Rattle.xmp_paths.specs.Places.{at}
use Rattle.xmp_rdf.specs.declared.meanings.Meaning.{Meaning}
use Rattle.xmp_tree.specs.Parts.{Parts}
use Rattle.xmp_write.specs.declared.forms.Form.{Form}
use Rattle.xmp_write.specs.Prefixes.{prefixes}
use Rattle.xmp_write.specs.Lines.{lines}
use Rattle.xmp_write.specs.ValueLines.{lines_at}
use Rattle.xmp_values.specs.Stops.{fault_at}
use Rattle.xmp_files.specs.Stages.{followed}

-- a rule that PATH breaks, the second word after the command
abbrev pub path_fault : Rule → Fault
path_fault rule = fault_at rule Words 2

abbrev pub path_step : Result PathParts Rule → Result PathParts Fault
path_step (Ok path) = Ok path
path_step (Err rule) = Err (path_fault rule)

-- no value is at PATH
abbrev pub no_such_place : Fault
no_such_place = fault_at NoSuchPlace Words 2

-- the form of every property, without a note
abbrev pub whole : Parts → Form
whole tree = record { first = 0; count = length tree.props; note = None }

-- the lines of what stands at a path, with the prefixes of the text of every property without a note
abbrev pub place_text : Meaning → PathParts → Result (List ℕ) Fault
place_text meaning place = Ok (lines_at (prefixes meaning.tree meaning.hints (whole meaning.tree)) meaning.tree place)

-- a text or a URI as it stands, and LF; else the lines of what stands there
abbrev pub shape_text : Meaning → PathParts → Shape-F Shape Member Value → Result (List ℕ) Fault
shape_text meaning place (layer.Simple text) = Ok (text ++ codes "\n")
shape_text meaning place (layer.Uri text) = Ok (text ++ codes "\n")
shape_text meaning place (layer.Struct fields) = place_text meaning place
shape_text meaning place (layer.Array kind items) = place_text meaning place

abbrev pub value_text : Meaning → PathParts → Option Value → Result (List ℕ) Fault
value_text meaning place None = Err no_such_place
value_text meaning place (Some value) = shape_text meaning place (out-Shape (out-Value value).shape)

-- what `get` shows of a file's meaning: the path, then the value there
unfoldable pub get_text : List ℕ → Meaning → Result (List ℕ) Fault
get_text path meaning = followed (path_step (path_of meaning.hints path)) (λ place. value_text meaning place (at meaning.tree place))

-- what `tree` shows: the lines of the tree, with the prefixes of the text of every property without a note
unfoldable pub shown_tree : Meaning → Result (List ℕ) Fault
shown_tree meaning = Ok (lines (prefixes meaning.tree meaning.hints (whole meaning.tree)) meaning.tree)
