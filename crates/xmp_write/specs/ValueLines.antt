-- The lines that show what stands at a path.
use Rattle.std.specs.Prelude.{ℕ, ◌+◌, List, [], ◌∷◌, ◌++◌, unwrap_or}
use Rattle.std.specs.Option.{option_map_or}
use Rattle.xmp_values.specs.declared.hints.Hint.{Hint}
use Rattle.xmp_tree.specs.declared.nested.Value.{Value}
use Rattle.xmp_tree.specs.Parts.{Parts}
use Rattle.xmp_tree.specs.Places.{value_named, tag_place}
use Rattle.xmp_paths.specs.declared.step.Step.{Step}
use Rattle.xmp_paths.specs.declared.step.Step.TheVariants.{Field, Qualifier, Item, Tag}
use Rattle.xmp_paths.specs.Parts.{PathParts}
use Rattle.xmp_paths.specs.Places.{items_of, child}
use Rattle.xmp_write.specs.Prefixes.{spelled}
use Rattle.xmp_write.specs.Lines.{field_path, qualifier_path, item_path, value_lines}

-- A path after one step from a value: a tag is written as the number of its item.
abbrev pub step_path : List Hint → List ℕ → Step → Value → List ℕ
step_path ps path (Field name) v = field_path path ++ spelled ps name
step_path ps path (Qualifier name) v = qualifier_path path ++ spelled ps name
step_path ps path (Item at) v = item_path path (at + 1)
step_path ps path (Tag tag) v = item_path path (unwrap_or (tag_place tag (items_of v)) 0 + 1)

-- the lines of what steps lead to from a value, none where they lead to nothing
abbrev pub lines_after : List Hint → List ℕ → List Step → Value → List ℕ
lines_after ps path [] v = value_lines ps path v
lines_after ps path (s ∷ ss) v = option_map_or (lines_after ps (step_path ps path s v) ss) (child s v) []

-- the lines of what stands at a path of a tree
abbrev pub lines_at : List Hint → Parts → PathParts → List ℕ
lines_at ps t p = option_map_or (lines_after ps (spelled ps p.name) p.steps) (value_named p.name t.props) []
